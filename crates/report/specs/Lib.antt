-- What a reader must believe of the aggregate report and its mail subject, and examples of both.
pub mod Xml
pub mod Report
pub mod Subject
pub mod Examples
pub mod Claims
