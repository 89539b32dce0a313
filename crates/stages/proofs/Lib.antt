pub mod Values
pub mod Below
pub mod Filling
pub mod Arranging
pub mod Finishing
