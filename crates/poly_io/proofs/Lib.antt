pub mod Parts
pub mod TakenLemmas
