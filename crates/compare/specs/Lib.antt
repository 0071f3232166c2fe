-- Comparing two images.
pub mod Compare
pub mod Faithful
pub mod Terms
