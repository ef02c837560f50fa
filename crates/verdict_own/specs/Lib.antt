-- What code promises that goes on from the author's own name.
pub mod code
