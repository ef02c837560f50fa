-- Where a word leads.
pub mod Choices
