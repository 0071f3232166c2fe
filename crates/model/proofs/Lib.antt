-- How the code meets the step, and that a good image is left.
pub mod Meets
pub mod Beside
pub mod Whole
pub mod Kept
pub mod Lengths
mod Ends
