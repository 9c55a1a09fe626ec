-- What the contracts of arrival books cite.
pub mod Meaning
pub mod Tables
pub mod Windows
pub mod Masks
pub mod Slots
pub mod Lists
pub mod Histories
-- Lemmas that the laws of the two windows rest on: proofs, and nothing to believe.
pub mod Steps
pub mod Judging
pub mod WindowLaws
pub mod BitLaws
pub mod SlotLaws
pub mod ListLaws
