-- Laws of scans.
pub mod Scan
