use Rattle.std.proofs.Common.{Some, ap, sym, ◌∙◌}
use Rattle.one_index.proofs.Uniform.{node_number, label_known}
use Rattle.one_index.proofs.stability.are_alike.Goals as goal

pub label-requires : goal.label-requires
label-requires c = node_number c.args.view.now c.requires.graph c.args.u c.requires.first

pub label-requires-2 : goal.label-requires-2
label-requires-2 c = node_number c.args.view.now c.requires.graph c.args.v c.requires.second

pub returns-clause-yes : goal.returns-clause-yes
returns-clause-yes c h = record {
  label = label_known c.args.view.now c.requires.graph c.args.u c.args.v (c.label.ensures ∙ ap Some c.if-label.false ∙ sym c.label-2.ensures);
  parents = record { there = c.covers.ensures.yes c.if-not-covers.false; back = c.covers-2.ensures.yes h };
}
