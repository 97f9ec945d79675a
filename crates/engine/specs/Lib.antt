pub mod Called
pub mod Work
pub mod Ready
