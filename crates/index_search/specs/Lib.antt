-- What a search that takes many cells at a look has seen.
pub mod InnerRun
