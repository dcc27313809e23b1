pub mod Images
pub mod Picks
pub mod Steps
pub mod Loops
pub mod Nodes
pub mod Ways
