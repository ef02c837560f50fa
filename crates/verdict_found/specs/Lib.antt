-- What code promises that goes on from the author's walk.
pub mod code
