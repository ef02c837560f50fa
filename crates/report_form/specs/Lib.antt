-- What a reader must believe of reading aggregate reports (document 02, Ask 10), and what is claimed of it.
pub mod ReportForm
pub mod ReportClaims
pub mod code
