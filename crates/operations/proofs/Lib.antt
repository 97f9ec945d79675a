pub mod Turns
pub mod Checks
pub mod Unique
mod Codes
