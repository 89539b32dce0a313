pub mod Counting
pub mod Marking
pub mod Plainly
