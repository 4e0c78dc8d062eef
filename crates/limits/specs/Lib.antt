pub mod FirstEdition
pub mod Limits
