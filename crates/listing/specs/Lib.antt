pub mod Chosen
pub mod Played
pub mod Printed
