pub mod Machine
pub mod Events
pub mod Traces
pub mod Places
