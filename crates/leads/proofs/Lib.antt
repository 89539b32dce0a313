pub mod Forgetting
pub mod Holding
