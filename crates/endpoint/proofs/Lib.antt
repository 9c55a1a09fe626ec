-- Lemmas, in the order in which the argument needs them: of the definitions and their laws, then of the calls in code.
pub mod Asked
pub mod Peers
pub mod Moving
pub mod Doing
pub mod EndLaws
pub mod Reaching
pub mod Passing
pub mod Sites
pub mod Bodies
pub mod Sending
pub mod Ticking
pub mod Finding
pub mod Hearing
pub mod Sizes
pub mod Writing
pub mod Replying
pub mod Arriving
