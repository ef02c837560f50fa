-- What the code promises.
pub mod Appending
