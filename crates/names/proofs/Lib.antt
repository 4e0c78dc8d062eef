pub mod NameLaws
pub mod TailLaws
