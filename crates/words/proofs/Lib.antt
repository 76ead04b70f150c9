pub mod BitLemmas
pub mod CrossLemmas
pub mod LimitLemmas
pub mod PlaceLemmas
pub mod SmallLemmas
