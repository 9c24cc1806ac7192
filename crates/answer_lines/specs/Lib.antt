-- Lines of answers in order.
pub mod Lines
