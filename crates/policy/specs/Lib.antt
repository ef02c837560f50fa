-- What a reader must believe of policy records.
pub mod Tags
pub mod Reports
pub mod Records
pub mod Repeated
