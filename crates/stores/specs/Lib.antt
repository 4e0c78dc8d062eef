pub mod Pair
pub mod Filter
pub mod Place
