pub mod Cells
pub mod Gathered
pub mod Grown
