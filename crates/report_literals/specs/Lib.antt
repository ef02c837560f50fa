-- Where a literal of the form of an aggregate report leads.
pub mod code
