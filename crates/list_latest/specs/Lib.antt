-- iter_latest_frames: what it lists, and what it gives.
pub mod Latest
pub mod InnerListing
pub mod InnerResult
pub mod InnerWritten
