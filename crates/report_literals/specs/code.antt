-- Where a literal leads.
pub mod Literals
