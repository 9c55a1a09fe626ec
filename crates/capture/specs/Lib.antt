pub mod Stops
pub mod Layout
pub mod Records
pub mod Views
