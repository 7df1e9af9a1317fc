pub mod Output
pub mod Walk
