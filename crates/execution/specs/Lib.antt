pub mod Traces
