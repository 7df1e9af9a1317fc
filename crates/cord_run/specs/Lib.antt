pub mod Runs
pub mod Failing
pub mod inner
