-- Laws of the replies.
mod LockReplies
