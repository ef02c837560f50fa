-- What is claimed of an answer at the confirming name.
pub mod Place
