-- The trace file and its listing.
pub mod Trace
