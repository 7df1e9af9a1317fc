pub mod CommandLine
pub mod Outcomes
pub mod Reports
pub mod Drives
pub mod Headline
pub mod Drove
pub mod inner
