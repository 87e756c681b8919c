-- The copy-back limit.
pub mod Limit
pub mod Inner
