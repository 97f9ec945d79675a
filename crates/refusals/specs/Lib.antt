pub mod Numbers
pub mod Rest
