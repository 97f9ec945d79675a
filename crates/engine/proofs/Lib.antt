pub mod Unique
pub mod Staying
pub mod Placing
pub mod Draining
pub mod Settling
pub mod Releasing
pub mod Deciding
pub mod Accepting
pub mod Calling
mod Alone
mod Asked
