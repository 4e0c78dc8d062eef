pub mod ListsLaws
