-- Laws of the kept length, and of cells that do not change a header.
mod Change
pub mod Turns
