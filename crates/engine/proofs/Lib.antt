pub mod Steps
pub mod Checked
pub mod Registered
pub mod Started
pub mod Readings
pub mod Sets
pub mod SettledAnswers
