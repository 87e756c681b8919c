-- Laws of stores and refusals that all calls share.
pub mod Stores
pub mod Refusals
pub mod Every
pub mod ByteLocks
