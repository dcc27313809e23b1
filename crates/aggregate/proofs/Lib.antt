pub mod Bits
pub mod Terms
pub mod Halves
pub mod Tiers
pub mod Lowest
