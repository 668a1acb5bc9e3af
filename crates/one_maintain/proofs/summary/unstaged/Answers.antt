use Rattle.one_maintain.proofs.Staged.{covers_cleared}
use Rattle.one_maintain.proofs.summary.unstaged.Goals as goal

pub invariant_of-result : goal.invariant_of-result
invariant_of-result c = record {
  kept = c.requires.empty;
  parentless = c.requires.covers;
  shown = covers_cleared c.args.base c.args.draft c.args.parentless c.requires.empty c.requires.covers;
}
