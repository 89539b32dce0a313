pub mod Answers
pub mod Again
