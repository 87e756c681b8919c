-- The end of the index: the header's cells that tell where it is, what a record puts there, and what a rollback keeps.
pub mod Cells
pub mod InnerChange
pub mod Place
pub mod Kept
