use Rattle.std.proofs.Common.{◌≡◌, true, rules}
use Rattle.std.specs.Prelude.{is_none}
use Rattle.fb_index.proofs.FittingView.{refreshed}
use Rattle.fb_index.proofs.index.FbIndexPathIndex.refresh.Goals as goal

pub returns-in_ok-summary-clause-refreshed : goal.returns-in_ok-summary-clause-refreshed
returns-in_ok-summary-clause-refreshed c =
    let none : is_none c.args.self.now.summary ≡ true = search rules in
    refreshed c.args.self.now.summary c.in_ok-summary.summary c.args.self.now.is_staged c.args.view.now none c.requires.ready.unstaged c.in_ok-summary.ensures
