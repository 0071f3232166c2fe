-- Theorems of the choice.
pub mod Choice
