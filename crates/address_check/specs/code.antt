-- How the code keeps and answers things: only contracts and proofs of code cite these definitions.
pub mod Pairs
pub mod Cursor
pub mod Machine
pub mod View
pub mod Showing
