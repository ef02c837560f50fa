-- Where an evaluation stands between calls.
pub mod code
