pub mod SplitCosts
pub mod Counted
pub mod NodeTargetBlocks
pub mod RoundStates
pub mod Numbered
pub mod SplitStates
