-- The program that reads an aggregate report.
pub mod ReportReading
