pub mod Chunks
pub mod Counts
pub mod Prints
