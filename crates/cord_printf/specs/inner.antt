pub mod Format
pub mod Own
pub mod PieceText
pub mod Reading
pub mod PieceLayouts
