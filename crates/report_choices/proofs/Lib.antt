-- Laws of words.
pub mod ChoiceLaws
