-- Laws of the choice: the first of each page, the bounds, and turns.
pub mod Chosen
pub mod Turns
