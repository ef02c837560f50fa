-- What each call promises by the numbers that it gives, and demand 3 of an address check.
pub mod Numbers
pub mod Promises
pub mod Demand3
pub mod code
