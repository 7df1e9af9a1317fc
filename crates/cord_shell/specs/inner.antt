pub mod CommandLine
pub mod Files
pub mod Outcomes
