pub mod Reading
pub mod Unique
pub mod Rooms
pub mod Placed
pub mod Raised
