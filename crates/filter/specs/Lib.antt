-- Filtering.
pub mod Filter
pub mod Parts
