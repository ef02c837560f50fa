-- Laws of a source address, and the proofs of the functions.
pub mod SourceLaws
