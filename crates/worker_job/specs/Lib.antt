pub mod Due
pub mod Replies
pub mod Runs
