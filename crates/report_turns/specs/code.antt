-- One octet of a value.
pub mod Values
