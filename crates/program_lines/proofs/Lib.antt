-- Steps of a buffer of a fixed size, and of reading a number.
pub mod Windows
pub mod Digits
