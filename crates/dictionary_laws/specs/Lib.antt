pub mod Keys
pub mod Points
pub mod Numbers
pub mod Exchange
pub mod Coordinates
pub mod MainSpace
pub mod Laws
pub mod WithT
