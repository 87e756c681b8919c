-- Laws of an index grown from fresh memory.
pub mod Blocks
pub mod Lists
pub mod Entries
pub mod Visible
pub mod Found
pub mod Starts
pub mod Places
pub mod Records
pub mod Rollbacks
pub mod Grows
pub mod Looked
pub mod Unique
pub mod Listed
pub mod Answers
pub mod Views
pub mod Cases
