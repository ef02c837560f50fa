-- A sheet's records where they lie.
pub mod Layout
