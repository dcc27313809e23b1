pub mod Answers
pub mod Ops
