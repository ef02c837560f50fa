-- What a record is.
pub mod Kinds
