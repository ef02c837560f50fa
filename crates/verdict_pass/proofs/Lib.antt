-- Laws of one identifier.
pub mod PassingLaws
