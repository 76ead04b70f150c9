pub mod RowLemmas
pub mod KeyLemmas
pub mod RoomLemmas
pub mod TableLemmas
mod LabelKnownValues
mod ListingKnownValues
pub mod KeyListLemmas
