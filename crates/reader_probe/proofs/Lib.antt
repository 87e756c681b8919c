-- Laws of the look for a failed probe.
pub mod Looked
