-- The examples of clause 12 as tables that antt computes.
pub mod Acceptance
pub mod AcceptanceCalls
pub mod Listed
