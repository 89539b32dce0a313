pub mod Counting
pub mod Marks
pub mod Plain
