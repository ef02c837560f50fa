-- Definitions that only code needs.
pub mod TagValues
pub mod TagNames
