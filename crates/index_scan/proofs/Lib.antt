-- Laws of the searches over the entries.
pub mod Scanned
mod Looks
pub mod Choices
pub mod Distances
