use Rattle.std.proofs.Common.{◌∙◌, sym, subst, []}
use Rattle.round_refinement.specs.NumberedShapes.{digraph_shape}
use Rattle.round_refinement.specs.Active.{IsOnTheWay}
use Rattle.round_refinement.proofs.LevelLaws.{is_shape_by_number}
use Rattle.round_refinement.proofs.ActiveLaws.{way_start}
use Rattle.round_refinement.proofs.active.part_active.Goals as goal

pub part_rounds-requires-clause-way : goal.part_rounds-requires-clause-way
part_rounds-requires-clause-way g c =
    let s = digraph_shape g.G.Digraph c.args.g.now in
    let shape = is_shape_by_number (g.G.Digraph.span c.args.g.now) (g.G.Digraph.label_at c.args.g.now) (g.G.Digraph.edge c.args.g.now) (g.met.G.Digraph.below c.args.g.now) (g.met.G.Digraph.ends c.args.g.now) in
    let block = c.in_ok-block.block.items in
    subst (IsOnTheWay s c.in_ok-before.before.items block) (sym c.new.ensures.items)
    (subst (λ b. IsOnTheWay s b block []) (sym (c.in_ok-before.ensures ∙ c.deref.ensures.value)) (way_start s block c.in_ok-block.next.items shape c.in_ok-block.ensures))
