-- The frame index: what all calls on it share, and the lookup.
pub mod Index
pub mod Find
pub mod InnerFound
pub mod InnerLookup
