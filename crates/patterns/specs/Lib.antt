pub mod Signs
pub mod Common
pub mod Literals
