pub mod Crosses
pub mod Limits
pub mod Small
