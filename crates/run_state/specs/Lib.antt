pub mod KeyLists
pub mod Payloads
pub mod Stops
pub mod Runs
pub mod Legal
pub mod Laws
pub mod Known
