pub mod Halves
pub mod Steps
