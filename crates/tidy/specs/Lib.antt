pub mod Runs
pub mod Tidied
