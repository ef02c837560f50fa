-- Laws of what is written into a row, octet by octet.
pub mod StoreLaws
