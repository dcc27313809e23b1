pub mod Cells
pub mod NodeWords
pub mod Numerals
pub mod Widths
