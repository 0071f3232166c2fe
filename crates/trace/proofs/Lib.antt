-- Theorems of the trace file and of its listing.
pub mod Answers
pub mod Runs
pub mod Bound
pub mod Feeds
pub mod Unique
