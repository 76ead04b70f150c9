pub mod Printing
pub mod Progress
pub mod Recorded
