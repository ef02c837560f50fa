-- All that is claimed, in one record; and the claims of Ask 10, whose proofs are dear to load.
pub mod Received
pub mod Delivered
