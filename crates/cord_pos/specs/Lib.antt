pub mod Position
pub mod Spans
pub mod inner
