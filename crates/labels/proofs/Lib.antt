pub mod Sets
pub mod Coming
pub mod Marking
pub mod Seeking
