-- Demand 3: sequences of calls, the book, holds, the theorem's statement; the like of a hold at mark 0; the order of refusals; and a
-- worked sequence.
pub mod Sequence
pub mod Book
pub mod Hold
pub mod Statement
pub mod DbFileHold
pub mod Order
pub mod Example
