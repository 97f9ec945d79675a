pub mod Chosen
pub mod Texts
pub mod Events
pub mod Sizes
pub mod Unique
