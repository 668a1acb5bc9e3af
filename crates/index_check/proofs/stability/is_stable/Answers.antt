use Rattle.std.proofs.Common.{refl, sym, ◌∙◌}
use Rattle.std.proofs.lemmas.Bool.{and_parts, and_from}
use Rattle.index_check.proofs.LevelLaws.{determines_as}
use Rattle.round_refinement.proofs.LevelLaws.{node_of, of_node}
use Rattle.index_check.proofs.Stable.{stable_where, labels_where, stays_where}
use Rattle.index_check.proofs.stability.is_stable.Goals as goal

pub refine-requires-clause-own : goal.refine-requires-clause-own
refine-requires-clause-own g c = λ n h. node_of (g.G.Digraph.label_at c.args.g.now n) (c.requires.partition.only n h)

pub refine-requires-clause-base : goal.refine-requires-clause-base
refine-requires-clause-base g c = λ n h. c.requires.partition.live n (of_node (g.G.Digraph.label_at c.args.g.now n) h)

pub returns : goal.returns
returns g c = (
  λ h.
      let p = and_parts c.in_ok-labelled.labelled c.in_ok-stays.stays (sym c.are_both.ensures ∙ h) in
      stable_where (g.G.Digraph.span c.args.g.now) (g.G.Digraph.label_at c.args.g.now) (g.G.Digraph.edge c.args.g.now) c.args.block.now c.in_ok-labels.labels.items c.in_ok-next.next.items
      c.requires.partition c.in_ok-labels.ensures c.in_ok-next.ensures
      (determines_as _ _ _ _ refl c.deref.ensures.value (c.in_ok-labelled.ensures.0 p.0))
      (determines_as _ _ _ _ refl c.deref-2.ensures.value (c.in_ok-stays.ensures.0 p.1)),
  λ st. c.are_both.ensures ∙ and_from c.in_ok-labelled.labelled c.in_ok-stays.stays
      (c.in_ok-labelled.ensures.1 (determines_as _ _ _ _ refl (sym c.deref.ensures.value) (labels_where (g.G.Digraph.span c.args.g.now) (g.G.Digraph.label_at c.args.g.now) (g.G.Digraph.edge c.args.g.now) c.args.block.now c.in_ok-labels.labels.items c.in_ok-labels.ensures st)))
      (c.in_ok-stays.ensures.1 (determines_as _ _ _ _ refl (sym c.deref-2.ensures.value) (stays_where (g.G.Digraph.span c.args.g.now) (g.G.Digraph.label_at c.args.g.now) (g.G.Digraph.edge c.args.g.now) c.args.block.now c.in_ok-next.next.items c.in_ok-next.ensures st))),
)
