-- What a call leaves and answers.
pub mod Answer
pub mod Refusals
