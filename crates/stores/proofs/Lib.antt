pub mod Hashed
pub mod Seen
pub mod Both
pub mod Located
pub mod PairLaws
pub mod PlaceLaws
