-- What the publishes and the bumps store to, and when a publish changes nothing.
pub mod Stored
pub mod Kept
