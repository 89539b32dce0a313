pub mod Sources
pub mod UsableArcs
pub mod Arriving
pub mod Whole
pub mod Settling
