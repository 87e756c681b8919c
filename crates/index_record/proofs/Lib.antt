-- Laws of record_frame and rollback_frames: an entry's stores and its place, and the calls in closed form.
pub mod Entered
pub mod Recorded
pub mod Placed
pub mod RolledBack
pub mod Stored
