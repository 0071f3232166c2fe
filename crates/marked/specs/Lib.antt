-- The numbers that document 01 marks.
pub mod Marked
