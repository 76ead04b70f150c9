pub mod Branches
pub mod OneOutcome
pub mod SplitOutcomes
pub mod Parts
pub mod RunsInSpaces
