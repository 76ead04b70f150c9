pub mod Listed
pub mod TextLaws
