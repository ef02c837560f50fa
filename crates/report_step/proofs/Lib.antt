-- Laws of one octet.
pub mod StepTurns
