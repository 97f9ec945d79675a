pub mod Lent
pub mod Words
pub mod Demanded
pub mod Merged
