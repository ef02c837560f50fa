-- One octet of a value of an aggregate report.
pub mod code
