-- Comparing two images.
pub mod Words
pub mod Below
pub mod Faithful
pub mod Call
