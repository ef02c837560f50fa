-- Laws of an answer.
pub mod AnswerLaws
