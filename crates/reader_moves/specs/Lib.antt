-- update_reader and unregister_reader.
pub mod Update
pub mod Inner
