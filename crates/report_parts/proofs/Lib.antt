-- The claim on parts, proved.
pub mod TellLaws
pub mod CallLaws
pub mod PartsClaimed
