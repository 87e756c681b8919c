-- What the C functions of the reader calls promise.
pub mod ReaderReplied
