-- One block's hash table: 8,192 cells over the block's 4,096 entries.
pub mod Home
pub mod Block
pub mod InnerLatest
