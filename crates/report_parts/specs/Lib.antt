-- What each call on a reader of aggregate reports promises, and what is claimed of every list of calls.
pub mod Parts
pub mod PartsClaims
pub mod code
