-- What the code tells of its state.
pub mod Telling
