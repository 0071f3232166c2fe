-- The fresh image.
pub mod Good
