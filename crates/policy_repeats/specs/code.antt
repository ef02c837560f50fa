-- Definitions that only code needs.
pub mod Storing
