pub mod Reported
pub mod Carried
pub mod Agreed
pub mod Merged
