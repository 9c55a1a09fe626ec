pub mod Written
pub mod Trips
pub mod Puts
pub mod Answering
pub mod Runs
pub mod Octets
