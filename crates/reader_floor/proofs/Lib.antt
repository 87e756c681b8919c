-- Laws of the pass over live slots, of the floor and of each call.
pub mod Live
pub mod Floored
pub mod Kept
pub mod Least
