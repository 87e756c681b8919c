-- Laws of the map of a block's cells.
pub mod Ways
pub mod Dropped
