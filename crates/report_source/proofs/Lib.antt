-- Laws of one octet of an open address.
pub mod SourceLaws
