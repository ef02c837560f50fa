-- How the code answers: only contracts of code cite these definitions.
pub mod code
