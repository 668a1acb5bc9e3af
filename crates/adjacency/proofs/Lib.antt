mod TargetLaws
mod FillLaws
mod StepLaws
pub mod RowLaws
