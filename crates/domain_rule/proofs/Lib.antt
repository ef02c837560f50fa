-- Laws for the proofs of this crate and of those above it.
pub mod ClassLaws
pub mod CheckLaws
pub mod PlainLaws
pub mod TableLaws
