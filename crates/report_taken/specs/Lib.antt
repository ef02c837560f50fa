-- A reader, and one octet that it takes.
pub mod code
