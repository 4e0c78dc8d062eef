pub mod Pairs
pub mod Quarrel
pub mod Group
pub mod Readings
