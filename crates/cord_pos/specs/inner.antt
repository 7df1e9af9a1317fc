pub mod Invariant
pub mod Parts
pub mod Path
pub mod Spans
