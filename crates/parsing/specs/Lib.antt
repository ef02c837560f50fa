-- What a reader must believe of programs that read a text in parts, and what is claimed of every one.
pub mod Reads
pub mod Claims
pub mod code
