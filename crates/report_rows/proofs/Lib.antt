-- Laws of a record element, and the proofs of the functions.
pub mod LineLaws
