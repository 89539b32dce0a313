pub mod Bits
pub mod Clients
