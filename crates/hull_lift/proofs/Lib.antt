pub mod CellLemmas
pub mod ColumnNumbers
pub mod MainColumns
pub mod SpaceVectors
pub mod ColumnVectors
pub mod ShownColumns
mod FacetKnownValues
