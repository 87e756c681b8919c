-- Laws of the locks' cells, and what the lock calls store to.
mod Cells
pub mod Stored
