-- Laws of the C functions of the index calls.
mod LookupReplies
mod SearchReplies
