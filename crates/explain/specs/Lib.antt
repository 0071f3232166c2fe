-- Why a frame lands where it does.
pub mod Explain
pub mod Terms
pub mod Agreement
