-- The calls that look at every reader.
pub mod Floor
pub mod Inner
