pub mod Waiting
pub mod Walks
pub mod Rings
pub mod Children
pub mod Moves
pub mod Runs
pub mod Ways
pub mod Starts
