pub mod LedgerLemmas
pub mod FollowLemmas
pub mod HonestLemmas
pub mod AcceptedLemmas
pub mod CourseLaws
pub mod EndLemmas
pub mod AnsweredStarts
pub mod AnsweredLemmas
