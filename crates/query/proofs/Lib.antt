pub mod Cuts
pub mod Figures
pub mod Quads
pub mod Queries
pub mod Inputs
pub mod Replies
