pub mod Spans
pub mod SharedParts
pub mod Pieces
pub mod Periods
pub mod Searches
pub mod Lasts
