pub mod Common
pub mod Handles
pub mod Loans
pub mod Lists
pub mod Scanning
pub mod Parts
pub mod Arguments
pub mod Walking
