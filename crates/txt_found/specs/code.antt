-- The policy records among texts.
pub mod Finding
