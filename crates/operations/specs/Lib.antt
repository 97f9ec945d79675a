pub mod Laid
pub mod Table
pub mod Words
