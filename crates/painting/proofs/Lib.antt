pub mod Moves
pub mod Chains
pub mod Lacks
pub mod Checks
