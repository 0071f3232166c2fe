-- The choice of what to send.
pub mod Choice
