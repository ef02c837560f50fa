-- The proofs of the claims.
pub mod EntryLaws
pub mod AnswerLaws
pub mod Placed
pub mod Claimed
