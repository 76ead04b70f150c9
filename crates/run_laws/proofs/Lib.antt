pub mod HonestCalls
pub mod RunLaws
pub mod EndingLaws
