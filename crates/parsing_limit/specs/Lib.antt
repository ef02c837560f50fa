-- Reading programs that take no more octets than a count can tell.
pub mod Limits
