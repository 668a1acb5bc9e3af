use Rattle.std.proofs.Common.{rules, sym, ◌∙◌}
use Rattle.script_read.proofs.NodeLists.{parts_more, parts_last}
use Rattle.script_read.proofs.nodes.first_part.Goals as goal

pub returns-in-Some-clause-parts : goal.returns-in-Some-clause-parts
returns-in-Some-clause-parts c = parts_more c.args.text.now c.in-Some.place c.split_at.result.0.now c.split_at.result.1.now (sym c.in-Some.is ∙ c.comma_place.ensures.place) (search rules) (search rules)

pub returns-in-None-clause-parts : goal.returns-in-None-clause-parts
returns-in-None-clause-parts c = parts_last c.args.text.now (sym c.in-None.is ∙ c.comma_place.ensures.place)
