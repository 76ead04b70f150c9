pub mod Causes
pub mod Memory
pub mod Taken
pub mod Written
