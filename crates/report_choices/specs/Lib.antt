-- Where a word of the form of an aggregate report leads.
pub mod code
