pub mod Edits
pub mod inner
