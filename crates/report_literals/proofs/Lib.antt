-- Laws of literals.
pub mod LiteralLaws
