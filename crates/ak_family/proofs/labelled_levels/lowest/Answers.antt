use Rattle.ak_family.proofs.LabelledMembers.{keys_begin, labelled_lowest}
use Rattle.ak_family.proofs.labelled_levels.lowest.Goals as goal

pub own_numbers-requires : goal.own_numbers-requires
own_numbers-requires c = keys_begin _ _ _ _ _ c.in_ok-level.ensures.numbered

pub returns-clause-labelled : goal.returns-clause-labelled
returns-clause-labelled c = labelled_lowest c.args.view.now _ _ _ c.in_ok-level.ensures.numbered c.in_ok-labels.ensures.first
