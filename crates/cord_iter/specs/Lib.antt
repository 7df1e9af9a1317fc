pub mod Walk
pub mod Output
pub mod inner
