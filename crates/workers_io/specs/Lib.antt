pub mod Children
pub mod Collects
pub mod History
pub mod Memory
pub mod MemoryLaws
pub mod Telling
