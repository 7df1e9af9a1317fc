pub mod Edits
pub mod Meaning
pub mod Records
