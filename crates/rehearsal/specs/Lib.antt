pub mod Words
pub mod Counts
pub mod Transcript
pub mod Reading
pub mod Orders
pub mod Scripts
pub mod Ahead
pub mod Rehearsals
