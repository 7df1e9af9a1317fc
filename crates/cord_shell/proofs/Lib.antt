pub mod Messages
pub mod Commands
pub mod Served
pub mod Pieces
pub mod Headline
