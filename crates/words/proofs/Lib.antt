-- Laws of words in bytes.
pub mod Laws
pub mod Rows
pub mod Again
pub mod Bytes
