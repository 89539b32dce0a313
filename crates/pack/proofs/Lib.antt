pub mod Fields
pub mod Marks
pub mod Words
