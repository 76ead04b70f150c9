pub mod ListingTextLemmas
pub mod ListingParts
pub mod Tallies
pub mod LabelLemmas
