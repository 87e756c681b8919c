-- The reader calls' replies.
pub mod ReaderReply
