-- Laws of the author's walk, stored.
mod AuthorLaws
