pub mod Lines
pub mod Spellings
pub mod Sites
pub mod Inputs
pub mod Parts
pub mod Replies
pub mod Responses
