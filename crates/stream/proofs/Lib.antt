-- The stream: one byte, then any bytes; where it can stand, and its state bytes; what it tells of a trace and of any other file; the code, and the
-- calls; where the fault lies; which states are taken; however a trace is cut.
pub mod Cases
pub mod Turns
pub mod Cuts
pub mod Ready
pub mod State
pub mod FromState
pub mod Story
pub mod Accounts
pub mod Walk
pub mod Chunks
pub mod Bytewise
pub mod Loops
pub mod Kept
pub mod Judging
pub mod Parts
pub mod Leaving
pub mod Came
pub mod Fitting
pub mod Viable
pub mod States
pub mod Streams
