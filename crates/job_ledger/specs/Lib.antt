pub mod Entries
pub mod Ledgers
pub mod Records
pub mod Spans
pub mod Stops
pub mod Values
pub mod Walks
