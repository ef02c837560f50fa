-- Laws of the replies kept.
pub mod KeepLaws
