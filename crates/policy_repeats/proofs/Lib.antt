-- Laws for the proofs of this crate.
pub mod UnknownLaws
pub mod StoreLaws
