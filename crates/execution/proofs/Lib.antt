pub mod Modes
pub mod Tracing
