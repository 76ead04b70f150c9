mod NumberTexts
pub mod InRange
mod FoundWords
mod FaultlessLines
mod LrsParses
mod WordlessCommands
mod KnownLines
mod NamedLines
mod WordlessLines
pub mod SameLines
pub mod OneLines
