-- Laws of the list: the first of each page, the latest entries, and the answers.
pub mod Heads
pub mod Put
pub mod Answers
pub mod Latest
pub mod Cases
