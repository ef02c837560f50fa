-- The parts of an address.
pub mod Parts
