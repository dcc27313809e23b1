pub mod Columns
pub mod Limits
pub mod Entries
pub mod Digits
pub mod Sheets
pub mod Readings
pub mod Refusals
