use Rattle.one_maintain.proofs.Staged.{covers_cleared}
use Rattle.one_maintain.proofs.summary.KeptSummaryKeptViews.cancel.Goals as goal

pub invariant_of-self : goal.invariant_of-self
invariant_of-self c = record {
  kept = c.clear.ensures.empty;
  parentless = c.self.invariant.parentless;
  shown = covers_cleared c.self.inside.base c.clear.new.self c.self.inside.parentless c.clear.ensures.empty c.self.invariant.parentless;
}
