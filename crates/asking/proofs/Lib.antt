-- Laws of runs by calls, and the proofs of the claims.
pub mod Computing
pub mod Completing
pub mod AskingLaws
pub mod ReplyLaws
