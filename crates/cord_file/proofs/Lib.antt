pub mod BlockParts
pub mod CordTexts
pub mod Growing
pub mod KeptBlocks
pub mod Holding
pub mod SourceBytes
pub mod Periods
pub mod Ranges
