-- Laws of the card, of refused and accepted calls, of the lowest slot, and of the stores that empty and take slots.
pub mod Card
pub mod Calls
pub mod Lowest
pub mod Some
pub mod Free
pub mod FindMap
pub mod Words
pub mod Emptied
pub mod Cells
pub mod Kept
pub mod Lent
