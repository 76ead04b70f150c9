pub mod KeyCounts
pub mod AttemptLemmas
pub mod SoundLemmas
pub mod KeptLemmas
pub mod KnownRuns
