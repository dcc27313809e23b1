pub mod Images
pub mod Acceptance
pub mod Matches
pub mod Addresses
