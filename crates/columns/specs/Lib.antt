pub mod Cells
pub mod Sizes
pub mod Steps
pub mod Slices
