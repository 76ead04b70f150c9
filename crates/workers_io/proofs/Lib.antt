pub mod HonestLemmas
pub mod KnownHistories
pub mod QueueLemmas
pub mod RunLemmas
