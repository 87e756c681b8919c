-- Searches over the entries alone: a frame of a page between two frames, and the page's nearest frame to a given one.
pub mod Scan
pub mod Between
pub mod Nearest
pub mod InnerScan
pub mod InnerSearch
