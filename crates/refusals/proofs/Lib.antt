pub mod Firsts
pub mod Numbers
pub mod Tables
pub mod Unique
