-- What a reader must believe of written policy records, and what is claimed of them.
pub mod Publishing
pub mod Claims
pub mod Numbers
pub mod RecordExamples
