-- What a reader must believe of grammars; the rest is found by theorems.
pub mod Grammar
pub mod code
