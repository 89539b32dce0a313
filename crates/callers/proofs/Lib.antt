pub mod Going
pub mod Relaxed
