pub mod Running
pub mod Looping
