-- The columns of the program's lines (document 01, "Program and its columns").
pub mod Field
pub mod Request
pub mod Answer
pub mod InnerForm
