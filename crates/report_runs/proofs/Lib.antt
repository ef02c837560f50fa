-- Laws of runs of octets.
pub mod HeldLaws
pub mod RunLaws
