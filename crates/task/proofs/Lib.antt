pub mod Reading
pub mod Relinking
pub mod Slices
