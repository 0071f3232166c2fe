-- A run in which everything happens at one mailbox (Run), and the worked case of overwrite protection (Overload).
pub mod Run
pub mod Overload
