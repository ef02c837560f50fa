-- One octet of a name of an aggregate report.
pub mod code
