-- Laws of a reader's beginning, its parts and its end.
pub mod ReaderLaws
