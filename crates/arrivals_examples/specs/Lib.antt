-- What the worked examples say.
pub mod Edges
