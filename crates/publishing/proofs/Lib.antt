-- Laws of written policy records, and the claims.
pub mod SplitLaws
pub mod TagLaws
pub mod ValueLaws
pub mod Claimed
pub mod NumbersBack
pub mod RecordExamples
