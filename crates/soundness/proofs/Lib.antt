pub mod Turns
pub mod Words
pub mod Grouped
pub mod Unique
pub mod Stored
