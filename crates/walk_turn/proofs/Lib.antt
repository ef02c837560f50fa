-- Laws of one turn of a walk, and of the number stored of it.
pub mod TurnLaws
