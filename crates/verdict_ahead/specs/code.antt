-- What an evaluation waits for, as code says it.
pub mod Waits
