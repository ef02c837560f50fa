-- Texts put together from pieces.
pub mod Pieces
pub mod Putting
