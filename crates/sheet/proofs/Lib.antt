pub mod Widths
pub mod Rows
pub mod Entries
pub mod Checks
pub mod RoundTrip
pub mod Promises
pub mod Numbers
