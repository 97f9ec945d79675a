pub mod Walks
pub mod Rows
pub mod Queues
pub mod Starting
pub mod Back
pub mod Unique
pub mod Viewed
pub mod Events
