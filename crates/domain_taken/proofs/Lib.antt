-- Laws of a final dot, as the code looks for it.
pub mod LastLaws
