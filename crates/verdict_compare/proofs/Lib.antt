-- Laws of comparing.
pub mod ComparingLaws
