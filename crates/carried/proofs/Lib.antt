pub mod Unique
pub mod Fine
pub mod Carrying
pub mod Agreeing
pub mod Merging
pub mod Starting
pub mod Bare
