-- One octet of a source address.
pub mod Origins
