-- Answers and lock modes as numbers.
pub mod Reply
pub mod Mode
