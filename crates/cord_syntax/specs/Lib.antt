pub mod Families
pub mod Lines
pub mod Readings
pub mod Targets
