pub mod Marked
pub mod Complete
pub mod Keeping
pub mod Arcs
