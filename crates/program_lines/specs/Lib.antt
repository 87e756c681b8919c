-- The buffer of answers that wait, and the numbers of a line.
pub mod InnerWindow
pub mod InnerOutput
pub mod InnerLine
