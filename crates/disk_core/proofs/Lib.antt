pub mod FileLemmas
pub mod Moments
pub mod Pieces
pub mod Quiets
