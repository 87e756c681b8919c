-- The lock calls' replies.
pub mod InnerTold
pub mod LockReply
