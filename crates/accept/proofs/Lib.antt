pub mod Cursors
pub mod Images
