pub mod Format
pub mod FormatLaws
pub mod Over
pub mod Own
pub mod PieceText
pub mod Pieces
pub mod Printing
pub mod inner
