-- Document 02, request e: a trace that arrives in parts.
pub mod Stream
pub mod Calls
pub mod Terms
pub mod Agreement
