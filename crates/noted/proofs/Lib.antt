pub mod Walks
pub mod Once
