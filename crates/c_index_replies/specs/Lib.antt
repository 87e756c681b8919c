-- The index calls' replies.
pub mod IndexReply
pub mod LookupReply
pub mod InnerSearchReply
