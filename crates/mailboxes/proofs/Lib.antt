-- Laws of mailboxes.
pub mod Laws
pub mod Spliced
pub mod Filed
pub mod Arbitration
