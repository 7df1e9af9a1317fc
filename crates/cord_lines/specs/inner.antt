pub mod Reading
pub mod Blocks
pub mod Cuts
pub mod Edits
