-- What code promises that stores the author's walk.
pub mod code
