pub mod Part
pub mod inner
