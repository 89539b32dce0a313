pub mod Callers
pub mod Answers
