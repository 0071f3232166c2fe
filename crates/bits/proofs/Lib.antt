-- Laws of flag words and of tests.
pub mod Laws
pub mod Sets
pub mod Tests
pub mod Below
pub mod Zeros
