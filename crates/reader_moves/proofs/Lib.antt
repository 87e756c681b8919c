-- Laws of update_reader and unregister_reader.
pub mod Released
pub mod Moved
