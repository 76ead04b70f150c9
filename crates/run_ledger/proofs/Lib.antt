pub mod Errors
pub mod RowsOwed
pub mod RepliesInOrder
pub mod LedgerReads
pub mod RunListings
pub mod EntryLines
