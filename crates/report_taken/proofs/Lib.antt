-- Laws of one octet that a reader takes.
pub mod ReadyLaws
pub mod TakeLaws
