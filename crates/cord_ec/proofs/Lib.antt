pub mod Growing
pub mod Leaves
pub mod MadeLemmas
