-- What the examples of the search mean.
pub mod Peers
