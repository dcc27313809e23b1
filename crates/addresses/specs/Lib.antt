pub mod Addresses
pub mod Laws
pub mod Sizes
pub mod Sums
pub mod Standing
