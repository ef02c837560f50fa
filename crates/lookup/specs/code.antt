-- What only code needs: contracts and proofs of code cite these definitions.
pub mod Following
