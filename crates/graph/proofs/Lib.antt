pub mod Bits
pub mod Found
pub mod Rows
