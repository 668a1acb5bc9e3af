pub mod Effects
pub mod EffectBlocks
pub mod StepEffects
