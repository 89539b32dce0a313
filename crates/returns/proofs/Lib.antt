pub mod Marks
pub mod Returns
