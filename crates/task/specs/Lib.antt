pub mod Task
pub mod Rows
pub mod Links
pub mod Goals
