-- One step (Steps); a start and an outcome after it (Try); runs of them (Lone); an image from which they go (Possible).
pub mod Steps
pub mod Try
pub mod Lone
pub mod Possible
