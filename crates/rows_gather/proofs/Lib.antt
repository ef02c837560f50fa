-- The proofs of the functions, and laws of rows as octets.
pub mod GatherLaws
