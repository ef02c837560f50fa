-- Laws of what a reader keeps.
pub mod WriteLaws
pub mod ArriveLaws
