pub mod Places
pub mod Runs
pub mod Rulings
pub mod Pages
