pub mod Texts
pub mod Readings
pub mod Sizes
pub mod Runs
