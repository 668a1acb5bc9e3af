use Rattle.std.proofs.Common.{Some, ap, ◌∙◌}
use Rattle.std.specs.Prelude.{option_map}
use Rattle.index_file.specs.Readings.{RankedView}
use Rattle.index_file.proofs.ReadViewLaws.{last_row}
use Rattle.index_file.proofs.read_views.last_via_in.Goals as goal

pub returns-in-Some : goal.returns-in-Some
returns-in-Some c = ap Some c.via.ensures ∙ ap (option_map (λ (v : RankedView). v.via)) c.in-Some.ensures.value ∙ last_row c.args.list.now

pub returns-in-None : goal.returns-in-None
returns-in-None c = ap (option_map (λ (v : RankedView). v.via)) c.in-None.ensures.value ∙ last_row c.args.list.now
