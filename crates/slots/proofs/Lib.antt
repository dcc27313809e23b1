pub mod Bits
pub mod Shifts
pub mod Masks
pub mod Tables
pub mod Picks
pub mod Both
pub mod Paths
