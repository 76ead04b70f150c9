pub mod ReplyTexts
pub mod Allowed
pub mod DueLemmas
pub mod TakenTexts
