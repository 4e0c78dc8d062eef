pub mod Policy
pub mod Dump
pub mod Choice
pub mod Walk
pub mod Best
pub mod Filter
pub mod Stated
