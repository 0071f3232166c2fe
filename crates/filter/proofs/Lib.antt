-- Theorems of the match, of the search and of where a frame goes.
pub mod Matching
pub mod Rest
pub mod Search
pub mod Turning
pub mod Halving
pub mod Passed
pub mod Walk
pub mod Ways
