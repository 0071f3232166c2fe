-- The order of the refusals.
pub mod Order
