pub mod Standing
pub mod Counts
pub mod Walked
pub mod Made
