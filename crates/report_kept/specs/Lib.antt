-- What a reader of aggregate reports keeps, and the program that is left of it.
pub mod Layout
pub mod code
