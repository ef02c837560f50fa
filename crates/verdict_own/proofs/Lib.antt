-- Laws of the author's own record.
mod OwnLaws
