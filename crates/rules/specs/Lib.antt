-- The rulebook: document 01, and of document 02 the outcome of b), the DLC of c) and the second controller of g), as rules over the words,
-- bits and bytes of an image, in its own numbers. Read it in this order: the vocabulary; the sections; the step and the fresh model; what is
-- proved of it all.
pub mod Words
pub mod Image
pub mod Events
pub mod Writing
pub mod Reading
pub mod Receiving
pub mod Sending
pub mod Fresh
pub mod Step
pub mod Listing
pub mod Calls
pub mod Exact
pub mod Demands
