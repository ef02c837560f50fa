-- What is left of a reader behind a run of octets.
pub mod code
