pub mod Rows
pub mod Listings
pub mod OverflowText
