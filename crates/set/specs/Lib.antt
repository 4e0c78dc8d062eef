pub mod Known
pub mod Decided
pub mod Writable
pub mod Asked
