-- Live and dead slots, and failed probes.
pub mod Live
pub mod Inner
