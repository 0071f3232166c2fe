-- What makes an image good.
pub mod Good
pub mod Gathered
