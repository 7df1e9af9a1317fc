pub mod Common
pub mod LineReading
pub mod Reading
pub mod Verbal
