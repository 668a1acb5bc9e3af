pub mod OneDrafts
pub mod EffectDrafts
pub mod UnsteadyNodes
