pub mod Loading
pub mod Calls
