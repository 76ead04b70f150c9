pub mod Rays
pub mod Rows
pub mod Searches
pub mod Listed
pub mod Totals
