-- Laws of one octet of a source address.
pub mod OriginLaws
