-- Laws of one octet of a name.
pub mod NameTurns
