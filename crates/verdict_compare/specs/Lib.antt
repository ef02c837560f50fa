-- What comparing promises.
pub mod code
