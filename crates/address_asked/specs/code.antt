-- How the code keeps and answers things: only contracts and proofs of code cite these definitions.
pub mod Asked
