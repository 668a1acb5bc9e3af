pub mod StepLaws
pub mod RoundLaws
pub mod BothLaws
pub mod SingletonLaws
pub mod Starts
pub mod IndexBlocks
pub mod OrderLaws
