-- Laws of the C functions of the reader calls.
pub mod ReaderReplies
