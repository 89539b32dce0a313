-- docs/SPECIFICATION.md as definitions, in its order. A number in a comment is the clause that the definition states.
pub mod Basics
pub mod Record
pub mod Runs
pub mod Newest
pub mod Relaxed
pub mod Painting
pub mod Repair
pub mod Sheet
pub mod Calls
pub mod Existence
pub mod Listing
