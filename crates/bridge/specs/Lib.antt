-- What the exported runs write.
pub mod Runs
pub mod Deliveries
