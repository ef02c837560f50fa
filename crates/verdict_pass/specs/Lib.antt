-- What comparing makes of one identifier.
pub mod code
