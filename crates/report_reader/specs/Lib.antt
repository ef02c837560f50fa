-- A reader, and a part of the text.
pub mod code
