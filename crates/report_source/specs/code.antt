-- One octet of an open address.
pub mod Sources
