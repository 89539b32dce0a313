pub mod Cut
pub mod Loading
