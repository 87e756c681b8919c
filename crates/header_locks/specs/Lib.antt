-- The two locks.
pub mod InnerChange
pub mod Locks
