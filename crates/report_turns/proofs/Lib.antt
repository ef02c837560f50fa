-- Laws of one octet of a value.
pub mod ValueTurns
