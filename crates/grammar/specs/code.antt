-- How texts and faults are found.
pub mod Finding
