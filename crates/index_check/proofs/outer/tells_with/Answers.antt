use Rattle.std.proofs.Common.{refl, sym, ◌∙◌}
use Rattle.std.proofs.lemmas.Bool.{and_parts, and_from}
use Rattle.graph_spec.specs.Members.{at}
use Rattle.bisim_spec.specs.declared.sides.Side.TheVariants.{Parents}
use Rattle.index_check.proofs.LevelLaws.{determines_as}
use Rattle.round_refinement.proofs.NeighbourBlocks.{neighbour_block}
use Rattle.index_check.proofs.OuterKeys.{tells_from, tells_apart}
use Rattle.index_check.proofs.outer.tells_with.Goals as goal

pub returns : goal.returns
returns g c =
    let own = at c.args.own.now in
    let block = c.args.block.now in
    let edge = g.G.Digraph.edge c.args.g.now in
    let next = c.in_ok-by_outer.by_outer.items in
    let keys = c.number_by_outer.new.keys in
    let blocks = neighbour_block Parents (g.G.Digraph.label_at c.args.g.now) edge block (g.met.G.Digraph.ends c.args.g.now) c.requires.base in (
      λ h.
          let p = and_parts c.in_ok-apart.apart c.in_ok-lacks.lacks (sym c.are_both.ensures ∙ h) in
          tells_from own block next edge keys blocks c.in_ok-by_outer.ensures.distinct c.in_ok-by_outer.ensures.numbered
          (determines_as _ _ _ _ c.deref.ensures.value refl (c.in_ok-apart.ensures.0 p.0)) (c.in_ok-lacks.ensures.0 p.1),
      λ t.
          let w = tells_apart own block next edge keys blocks c.in_ok-by_outer.ensures.distinct c.in_ok-by_outer.ensures.numbered t in
          c.are_both.ensures ∙ and_from c.in_ok-apart.apart c.in_ok-lacks.lacks
          (c.in_ok-apart.ensures.1 (determines_as _ _ _ _ (sym c.deref.ensures.value) refl w.0)) (c.in_ok-lacks.ensures.1 w.1),
    )
