pub mod Digits
pub mod Lines
pub mod Shapes
pub mod Answers
pub mod Unique
