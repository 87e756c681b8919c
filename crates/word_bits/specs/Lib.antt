-- Bits of a word.
pub mod Bit
