-- Steps of reading and of writing columns, and worked cases.
pub mod Fields
pub mod Lines
pub mod Forms
pub mod Cases
