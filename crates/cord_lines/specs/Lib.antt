pub mod Counts
pub mod Lines
pub mod Index
pub mod inner
