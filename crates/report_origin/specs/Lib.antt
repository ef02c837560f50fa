-- One octet of a source address, as it changes a reader.
pub mod code
