-- Laws of plans and of refusals.
pub mod Refused
pub mod Plans
