pub mod ColumnLemmas
pub mod CommonFactors
pub mod SizeLemmas
pub mod OverLemmas
pub mod LeastCells
pub mod PassingLemmas
pub mod DivisorLemmas
