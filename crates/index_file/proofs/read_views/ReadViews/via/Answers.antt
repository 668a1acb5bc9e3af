use Rattle.std.proofs.Common.{◌<◌, Some, length, ap, sym, ◌∙◌, arith}
use Rattle.std.specs.Prelude.{option_map}
use Rattle.std.proofs.lemmas.Option.{slice_get-get_or}
use Rattle.index_file.specs.Readings.{RankedView}
use Rattle.index_file.proofs.read_views.ReadViews.via.Goals as goal

pub returns : goal.returns
returns c =
    let xs = c.self.inside.list.items in
    let same = ap length c.self.view_is in
    let requires = c.requires in
    let there : c.args.j < length xs = omega (arith, same, requires) in
    rw (← c.self.view_is)
    (ap (option_map (λ (v : RankedView). v.via)) (slice_get-get_or xs c.args.j c.index.result.now there) ∙ ap (λ (v : RankedView). Some v.via) (sym c.index.ensures) ∙ ap Some (sym c.via.ensures))
