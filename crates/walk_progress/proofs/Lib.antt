-- Laws of a walk that is kept.
mod LabelLaws
pub mod SummaryLaws
pub mod ProgressLaws
pub mod ReachingLaws
pub mod StopLaws
