pub mod Courses
pub mod Laws
pub mod Restarts
pub mod Ends
pub mod Answered
