pub mod Answers
pub mod Repairs
