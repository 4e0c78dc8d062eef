pub mod Test
pub mod Bytes
pub mod Hash
pub mod Chunks
pub mod Filter
