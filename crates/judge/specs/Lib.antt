pub mod Judged
pub mod Reports
