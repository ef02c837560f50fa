-- What a reader must believe of the Identity-Alignment field as it is read, with claims and examples.
pub mod Field
pub mod Claims
pub mod Examples
pub mod Numbers
pub mod code
