-- The steps of taking an answer.
pub mod Steps
