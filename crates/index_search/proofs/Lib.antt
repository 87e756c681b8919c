-- Laws of runs of cells, and of the searches that pass over them.
pub mod Runs
pub mod Passed
