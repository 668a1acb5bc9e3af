use Rattle.std.proofs.Common.{rules, sym, ◌∙◌, ap, Some}
use Rattle.graph_spec.specs.Members.{at}
use Rattle.bisim_spec.specs.declared.sides.Side.TheVariants.{Parents}
use Rattle.round_refinement.proofs.NeighbourBlocks.{neighbour_block}
use Rattle.index_check.proofs.OuterKeys.{whole_key}
use Rattle.index_check.proofs.outer.has_whole_key.Goals as goal

pub returns-in_ok-write_key-in-Some : goal.returns-in_ok-write_key-in-Some
returns-in_ok-write_key-in-Some g c =
    let block = c.args.block.now in
    let edge = g.G.Digraph.edge c.args.g.now in
    let written = c.in_ok-write_key-in-Some.ensures (at block) (λ m o within given. search rules) in
    let blocks = neighbour_block Parents (g.G.Digraph.label_at c.args.g.now) edge block (g.met.G.Digraph.ends c.args.g.now) c.requires.base in
    let both = whole_key (at c.args.own.now) block edge c.args.keys.now c.args.n c.in-Some.number c.parents.result.now c.write_key.new.key.items blocks c.parents.ensures
    (sym c.block_of.ensures ∙ c.in-Some.is) written in (
      λ h. let k = c.has_key.ensures.0 h in both.0 (k.0, k.1 ∙ ap Some c.deref.ensures.value),
      λ w. let k = both.1 w in c.has_key.ensures.1 (k.0, k.1 ∙ ap Some (sym c.deref.ensures.value)),
    )
