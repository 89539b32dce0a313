pub mod RedBlackSteps
pub mod Knowing
pub mod Running
