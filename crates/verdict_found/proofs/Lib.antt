-- Laws of the author's walk.
mod FoundLaws
