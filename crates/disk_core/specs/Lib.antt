pub mod Contents
pub mod Images
pub mod Memory
pub mod Moments
pub mod Real
pub mod Untold
