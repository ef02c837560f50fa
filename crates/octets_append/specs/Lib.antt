-- What the code promises: only contracts and proofs of code cite these definitions.
pub mod code
