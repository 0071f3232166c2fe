-- Reading a register.
pub mod Gsr
pub mod Read
