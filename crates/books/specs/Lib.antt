-- The books of a mailbox; what happens there in a step, runs, and the theorem; what became of the frames of a run.
pub mod Ledger
pub mod Happen
pub mod Frames
