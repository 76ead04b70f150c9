pub mod Standing
pub mod Begin
pub mod Laws
pub mod Columns
pub mod Shown
pub mod Listed
pub mod Plain
pub mod Visits
