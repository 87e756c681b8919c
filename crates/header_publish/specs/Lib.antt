-- Publishes and bumps.
pub mod Publish
