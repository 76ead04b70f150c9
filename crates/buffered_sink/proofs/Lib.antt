pub mod EndLemmas
pub mod HandLemmas
pub mod HeldLemmas
