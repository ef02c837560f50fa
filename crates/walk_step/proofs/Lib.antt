-- Laws of a walk over its last targets.
pub mod StepLaws
