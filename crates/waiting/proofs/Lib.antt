pub mod Places
pub mod Chains
