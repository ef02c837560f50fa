-- One octet of a name.
pub mod Names
