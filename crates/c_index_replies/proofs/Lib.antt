-- Laws of the replies.
mod IndexReplies
