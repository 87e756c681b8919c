-- The definitions that all calls share, in the order of document 01.
pub mod Settings
pub mod Memory
pub mod Store
pub mod Refusal
pub mod Mode
pub mod InnerByteLock
pub mod Call
pub mod Fresh
