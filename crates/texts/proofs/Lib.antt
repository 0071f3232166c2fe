-- Laws of what is put into lent bytes.
pub mod Decimal
pub mod Writing
pub mod Parts
