-- Good images by their facts.
pub mod Facts
pub mod Image
pub mod Masked
mod Masks
mod Stretches
