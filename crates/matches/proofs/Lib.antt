pub mod Images
pub mod Answers
