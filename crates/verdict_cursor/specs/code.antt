-- How the code keeps and answers things: only contracts and proofs of code cite these definitions.
pub mod Stage
pub mod StageClaims
pub mod Cursor
pub mod CursorClaims
pub mod Standing
pub mod Positions
