-- Reading a register.
pub mod Laws
mod Fields
