-- How the code keeps and answers things: only contracts and proofs of code cite these definitions.
pub mod Stored
pub mod Summary
pub mod Turns
pub mod Progress
pub mod Reaching
pub mod ReachingClaims
pub mod Stops
