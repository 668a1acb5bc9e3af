use Rattle.one_maintain.proofs.Staged.{built}
use Rattle.one_maintain.proofs.summary.KeptSummaryKeptViews.build.Goals as goal

pub returns : goal.returns
returns c =
    built c.in_ok-kept.kept c.in_ok-summary.summary c.args.view.now c.args._k c.in_ok-kept.ensures.base c.in_ok-kept.ensures.unstaged c.in_ok-summary.ensures.fits
    c.in_ok-summary.ensures.whole
