-- Laws of the index: its settings, one block as a part of the whole, the binary search, and a lookup in closed form.
pub mod Settings
pub mod Blocks
pub mod Search
pub mod Refused
pub mod Blockwise
pub mod LookedUp
