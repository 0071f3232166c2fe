-- Refusals.
pub mod Refusal
