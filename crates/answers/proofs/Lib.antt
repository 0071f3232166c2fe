-- The parts of an answer.
pub mod Parts
pub mod Lists
pub mod Refusals
