pub mod FirstKeys
pub mod WalkLemmas
pub mod Dimensions
pub mod SubsetLists
pub mod SubsetShares
pub mod WalkedLemmas
pub mod SubtreeShares
pub mod KeyLaws
