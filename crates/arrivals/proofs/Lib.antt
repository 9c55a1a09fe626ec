-- Lemmas, in the order in which the argument needs them.
pub mod PlaceLaws
pub mod HistoryLaws
pub mod MemoryLaws
