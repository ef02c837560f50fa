-- Definitions that only code needs.
pub mod TagWords
