-- Events.
pub mod Parts
pub mod Decode
