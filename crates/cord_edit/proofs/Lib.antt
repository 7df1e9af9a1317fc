pub mod Lists
pub mod Steps
pub mod Editing
pub mod Parting
pub mod Halves
