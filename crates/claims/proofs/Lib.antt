-- Every claim is proved.
pub mod Claimed
