-- The calls that change the frame index.
pub mod Record
pub mod InnerEntered
pub mod Rollback
