pub mod Settled
pub mod Zeros
