pub mod Common
pub mod Walks
pub mod Takes
pub mod Cuts
pub mod Backs
pub mod Lemmas
