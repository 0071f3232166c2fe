-- Laws of the register block.
pub mod Laws
pub mod Table
pub mod Flags
pub mod Counters
