-- What code and proofs of a reading program need.
pub mod Whole
