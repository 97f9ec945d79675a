pub mod Widths
pub mod Ends
pub mod Walk
pub mod Words
pub mod Start
pub mod View
pub mod Fitting
pub mod Events
