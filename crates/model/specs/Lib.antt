-- The step.
pub mod Step
pub mod Parts
