-- Runs that stay good (Pass); the books of the first, computed (Example); what is seen of the other (Overload).
pub mod Pass
pub mod Example
pub mod Overload
