pub mod Reading
pub mod Bad
pub mod Reader
pub mod HasRead
pub mod Pieces
