use Rattle.std.proofs.Common.{◌∙◌, ap, sym, inl, inr, true≢false}
use Rattle.graph_spec.specs.Graphs.{has_edge}
use Rattle.graph_spec.specs.Members.{has}
use Rattle.graph_spec.proofs.MemberLaws.{has_head}
use Rattle.index_picture.proofs.ParentLaws.{covers_all, covers_not}
use Rattle.index_picture.proofs.covered.covers_block.Goals as goal

pub returns-then-not-has_parent_in : goal.returns-then-not-has_parent_in
returns-then-not-has_parent_in g c =
    let v = c.in-Some.n in
    sym
    (covers_not (has_edge c.args.graph.now.graph) c.args.summary.now.blocks.block_of c.args.a c.args.b v
    (c.loop-n.invariant.members v (ap (λ l. has l v) c.in-Some.ensures.steps ∙ has_head v c.next.new.self))
    (sym c.has_parent_in.ensures ∙ c.if-not-has_parent_in.true))

pub returns : goal.returns
returns g c =
    sym
    (covers_all (has_edge c.args.graph.now.graph) c.args.summary.now.blocks.block_of c.args.a c.args.b
    (λ v m. elim (c.loop-n.invariant.rest v m) [
      | inl h ↦ absurd (true≢false (sym h ∙ ap (λ l. has l v) c.in-None.ensures.steps.0))
      | inr p ↦ p
    ]))
