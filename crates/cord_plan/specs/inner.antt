pub mod Liveness
pub mod Choices
pub mod Views
pub mod Numbering
pub mod Places
