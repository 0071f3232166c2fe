-- Why a frame lands where it does.
pub mod Reasons
pub mod Lines
pub mod Call
pub mod Agreement
