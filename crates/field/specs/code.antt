-- What is read, by the grammar.
pub mod Reading
