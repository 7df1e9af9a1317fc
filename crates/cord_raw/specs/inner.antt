pub mod Blocks
pub mod Loans
pub mod Ownership
pub mod Places
pub mod Texts
