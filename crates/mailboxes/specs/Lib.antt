-- Mailboxes.
pub mod Mailbox
pub mod Arbitration
pub mod Filing
