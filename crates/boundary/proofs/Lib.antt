pub mod Events
pub mod Demanding
pub mod Unique
pub mod Apart
