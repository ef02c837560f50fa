-- Laws of a whole report, and the proofs of the functions.
pub mod WritingLaws
pub mod WholeLaws
