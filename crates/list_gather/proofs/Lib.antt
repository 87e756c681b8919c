-- Laws of the gathering: the values seen, the first entry of a page, and turns.
pub mod SeenValues
pub mod Gathered
pub mod Gathering
