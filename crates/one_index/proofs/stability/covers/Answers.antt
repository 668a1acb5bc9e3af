use Rattle.std.proofs.Common.{sym, ◌∙◌}
use Rattle.std.proofs.lemmas.Bool.{both_ways}
use Rattle.one_index.proofs.Uniform.{node_number, covers_get, covers_from}
use Rattle.one_index.proofs.stability.covers.Goals as goal

pub parents-requires : goal.parents-requires
parents-requires c = node_number c.args.view.now c.requires.graph c.args.u c.requires.first

pub parents-requires-2 : goal.parents-requires-2
parents-requires-2 c = node_number c.args.view.now c.requires.graph c.args.v c.requires.second

pub returns-clause-yes : goal.returns-clause-yes
returns-clause-yes c h =
    covers_get c.args.view.now c.requires.graph c.args.summary.now.blocks c.args.u c.args.v c.parents.result.now c.parents-2.result.now c.parents.ensures c.parents-2.ensures
    (sym c.are_matched.ensures ∙ h)

pub returns-clause-no : goal.returns-clause-no
returns-clause-no c h covers =
    both_ways c.are_matched.result h
    (c.are_matched.ensures
    ∙ covers_from c.args.view.now c.requires.graph c.args.summary.now.blocks c.args.u c.args.v c.parents.result.now c.parents-2.result.now c.parents.ensures c.parents-2.ensures covers)
