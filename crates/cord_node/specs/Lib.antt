pub mod Tree
pub mod Tables
pub mod PartsFrom
pub mod Touched
pub mod Occurrences
pub mod Cords
pub mod inner
