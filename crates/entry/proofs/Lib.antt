pub mod EntryLaws
pub mod EncodingLaws
pub mod FirstEditionLaws
