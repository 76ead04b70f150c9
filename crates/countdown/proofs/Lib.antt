pub mod Borrowing
