pub mod Made
pub mod Rows
pub mod Counts
pub mod Steps
