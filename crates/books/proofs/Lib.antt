-- Demand 3: the balance of a book (Balance), a block that follows another by what happens (Follows), the flags of a block in an image
-- (Back), each operation and the whole step (Step), and runs (Demand3). What became of the frames of a run (Frames).
pub mod Balance
pub mod Follows
pub mod Back
pub mod Step
pub mod Demand3
pub mod Frames
