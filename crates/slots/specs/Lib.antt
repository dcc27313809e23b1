pub mod Masks
pub mod Picks
pub mod Places
pub mod Rules
