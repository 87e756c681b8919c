-- The entries that are chosen of a list.
pub mod Chosen
pub mod InnerChosen
