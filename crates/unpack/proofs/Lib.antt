pub mod Words
pub mod Copying
