pub mod SignLaws
pub mod CommonLaws
pub mod LiteralsLaws
