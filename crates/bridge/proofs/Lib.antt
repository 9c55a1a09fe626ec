-- Laws of runs.
pub mod RunLaws
pub mod DeliveryLaws
