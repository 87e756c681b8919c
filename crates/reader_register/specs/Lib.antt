-- register_reader.
pub mod Register
pub mod Inner
