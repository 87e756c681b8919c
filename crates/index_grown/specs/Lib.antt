-- An index grown from fresh memory by records and rollbacks, its entries as a list of pairs, and what is looked up there.
pub mod Entries
pub mod Grown
pub mod Calls
pub mod Listed
pub mod Looked
pub mod Cases
