-- Flag words, tests of words, and tests over all mailbox numbers.
pub mod Bit
pub mod Tests
pub mod Below
