-- Laws of an evaluation that moves on.
mod AdvanceLaws
