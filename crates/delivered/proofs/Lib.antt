-- All that is claimed is proved.
pub mod Claimed
