-- The entries that the hash names, and how they are gathered.
pub mod Named
pub mod InnerGathered
pub mod InnerGathering
