-- Laws of register_reader.
pub mod Second
pub mod Registered
pub mod Kept
pub mod Taken
pub mod None
