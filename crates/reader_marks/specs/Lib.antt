-- The registry of shared marks; scans of it, and changes of one record.
pub mod Registry
pub mod InnerScan
pub mod InnerChange
