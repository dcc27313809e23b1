pub mod Counts
pub mod Slots
