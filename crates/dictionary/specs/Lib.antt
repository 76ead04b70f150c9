pub mod MainPhase
pub mod FirstPhase
pub mod Views
pub mod New
pub mod Cobases
pub mod Positions
pub mod Arrangements
pub mod Blanks
