-- Lemmas, in the order in which the argument needs them.
pub mod Past
pub mod Alone
pub mod Remembered
pub mod Pair
pub mod Both
pub mod Lawful
pub mod Hearing
pub mod Spoken
pub mod Sites
pub mod Steps
pub mod Theorem
pub mod Playing
pub mod Stepping
pub mod Entering
pub mod Running
pub mod Refuting
pub mod Rehearsed
