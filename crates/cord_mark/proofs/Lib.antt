pub mod Token
pub mod Marks
pub mod Reported
