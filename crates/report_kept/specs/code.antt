-- The program that is left of what a reader keeps.
pub mod View
