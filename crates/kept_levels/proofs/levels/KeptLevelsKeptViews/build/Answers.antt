use Rattle.std.proofs.Common.{subst}
use Rattle.bisim_spec.specs.declared.sides.Sides.{Sides}
use Rattle.index_api.specs.Meanings.{IsBuilt}
use Rattle.kept_levels.specs.KeptFamilies.{meaning_of}
use Rattle.kept_levels.proofs.FamilyViews.{levels_fit}
use Rattle.kept_levels.proofs.Staged.{built}
use Rattle.kept_levels.proofs.levels.KeptLevelsKeptViews.build.Goals as goal

pub returns : goal.returns
returns g c =
    let family = c.in_ok-family.family in
    let made = c.in_ok-family.ensures in
    rw (← c.sides.ensures) (built c.sides.result family c.args.view.now c.args.k made.count (levels_fit c.sides.result c.args.view.now family c.args.k made.count made.fits made.agrees))
