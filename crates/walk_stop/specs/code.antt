-- How the code keeps things: only contracts and proofs of code cite these definitions.
pub mod KeptStops
