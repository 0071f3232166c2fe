-- The register block and what happens to it.
pub mod Block
pub mod Status
pub mod Writes
pub mod Modes
pub mod Frames
pub mod Sending
