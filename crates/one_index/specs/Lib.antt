pub mod StableViews
pub mod MergeTest
pub mod Alike
