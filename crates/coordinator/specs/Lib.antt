pub mod Following
pub mod Leaving
pub mod Starting
pub mod Ending
pub mod Stops
pub mod Calls
