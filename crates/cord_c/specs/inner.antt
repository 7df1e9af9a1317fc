pub mod Loans
pub mod Prints
