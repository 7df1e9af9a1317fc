pub mod Gaps
pub mod Splices
