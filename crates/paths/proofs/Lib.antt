pub mod Labels
pub mod Walking
pub mod Memos
pub mod Needing
