-- A tool alone on the bench.
pub mod Lone
