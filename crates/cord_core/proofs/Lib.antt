pub mod CordLemmas
pub mod OverLemmas
pub mod Parts
pub mod Catting
pub mod Places
pub mod Searches
pub mod Splices
