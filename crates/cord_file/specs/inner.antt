pub mod Blocks
pub mod Reading
