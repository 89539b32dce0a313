pub mod Repairing
pub mod Gliding
pub mod Ending
