use Rattle.one_index.proofs.Built.{full_fits}
use Rattle.one_index.proofs.building.OneIndex.build.Goals as goal

pub returns-clause-fits : goal.returns-clause-fits
returns-clause-fits c =
    full_fits c.args.view.now c.in_ok-summary.summary c.in_ok-blocks.blocks c.created-known.ensures.graph c.in_ok-summary.ensures.blocks c.in_ok-blocks.ensures.agrees c.in_ok-blocks.ensures.fits
    c.in_ok-summary.ensures.supports
