pub mod Columns
pub mod Elimination
pub mod Turns
pub mod Laws
pub mod Prepared
