-- The limit, by the floor.
pub mod Limited
