pub mod EachRow
pub mod GrowthLemmas
pub mod ShapeLemmas
pub mod Points
