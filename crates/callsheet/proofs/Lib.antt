pub mod Pieces
pub mod Steps
pub mod Taking
pub mod Following
pub mod Cuts
pub mod Rests
