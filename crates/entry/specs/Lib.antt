pub mod Entry
pub mod Encoding
pub mod FirstEdition
