pub mod Achievers
