-- The table of words.
pub mod Words
