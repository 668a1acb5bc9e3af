use Rattle.std.proofs.Common.{sym, ◌∙◌}
use Rattle.std.proofs.lemmas.Bool.{both_ways}
use Rattle.one_index.specs.MergeTest.{is_parent_of_one}
use Rattle.one_index.proofs.Neighbours.{all_get, all_from}
use Rattle.one_index.proofs.merging.is_covered.Goals as goal

pub returns-clause-yes : goal.returns-clause-yes
returns-clause-yes c h = record {
  each = λ x j.
      all_get (is_parent_of_one c.args.summary.now.supports c.args.c c.args.d) c.parents.result.now x (sym c.are_parents.ensures ∙ h) (c.parents.ensures.members x ∙ j);
}

pub returns-clause-no : goal.returns-clause-no
returns-clause-no c h covered =
    both_ways c.are_parents.result h
    (c.are_parents.ensures ∙ all_from (is_parent_of_one c.args.summary.now.supports c.args.c c.args.d) c.parents.result.now (λ x m. covered.each x (sym (c.parents.ensures.members x) ∙ m)))
