pub mod Lent
pub mod Four
