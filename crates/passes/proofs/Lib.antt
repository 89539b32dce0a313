pub mod Passing
pub mod Serving
