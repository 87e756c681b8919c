-- Marks that several connections of a process share.
pub mod Shared
pub mod Inner
