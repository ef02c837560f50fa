-- Laws of where an evaluation stands.
pub mod StageLaws
pub mod CursorLaws
pub mod PassedLaws
