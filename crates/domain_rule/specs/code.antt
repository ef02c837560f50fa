-- How the code answers.
pub mod Checking
pub mod Scanning
