pub mod Cord
pub mod Forms
pub mod Depths
pub mod Equations
pub mod Refusals
pub mod Texts
