-- What the C functions of a lookup, of a list and of the searches over the entries promise.
pub mod LookupReplied
pub mod SearchReplied
