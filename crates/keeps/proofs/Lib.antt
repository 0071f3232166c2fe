-- What keeps a good block good: one word at a time (Keep), then each change of the block, up to the end of the step (Open).
pub mod Words
pub mod Rows
pub mod Slot
pub mod Keep
pub mod Open
pub mod Settled
pub mod Writes
pub mod Modes
pub mod Frames
pub mod Sending
