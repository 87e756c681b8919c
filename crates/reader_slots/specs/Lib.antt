-- What all calls on reader slots share.
pub mod Slots
pub mod Search
pub mod Inner
