-- Laws of events: how they are judged, which refusal they get, what an accepted one is like.
pub mod Laws
pub mod Unused
pub mod Refusals
pub mod Allowed
