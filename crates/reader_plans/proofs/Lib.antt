-- Laws of what is seen, and of each call on shared marks.
pub mod Seen
pub mod Shares
pub mod Unshares
