pub mod Bits
pub mod Needs
pub mod Turns
pub mod Children
pub mod Covers
pub mod Descents
pub mod Images
pub mod Totals
