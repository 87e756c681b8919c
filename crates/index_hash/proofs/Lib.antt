-- Laws of the home of a page, of a search's turns, of a block built by insertion, and of the lookup in it.
pub mod Home
pub mod Turns
pub mod Empty
pub mod Probed
pub mod Built
pub mod Used
pub mod Latest
pub mod Lookup
pub mod Looked
