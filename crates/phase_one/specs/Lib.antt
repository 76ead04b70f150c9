pub mod SoFar
pub mod Worst
pub mod Columns
pub mod Lowering
pub mod Beginning
pub mod Ending
pub mod Found
