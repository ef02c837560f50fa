-- Everything that is claimed, by subject: what the definitions say of every input, and what the calls' promises come to.
pub mod Rules
pub mod Verdicts
pub mod Runs
pub mod Calls
pub mod Addresses
pub mod Reports
pub mod Requests
