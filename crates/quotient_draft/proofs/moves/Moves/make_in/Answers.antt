use Rattle.std.proofs.Common.{◌<◌, ◌+◌, ◌∙◌, ℕ, List, Option, Some, arith, sym, subst, ap, length}
use Rattle.std.specs.Prelude.{IsSome, nat_eq}
use Rattle.std.specs.Map.{lookup}
use Rattle.graph_spec.specs.Members.{at}
use Rattle.quotient_draft.specs.MoveTables.{KeptMoves}
use Rattle.quotient_draft.proofs.AppliedDrafts.{moves_next, if_block, for_block}
use Rattle.quotient_draft.proofs.moves.Moves.make_in.Goals as goal

pub put-requires-clause-block : goal.put-requires-clause-block
put-requires-clause-block c =
    let looked = ap (λ (k : KeptMoves). lookup (nat_eq c.in-Some.n.now) k.moves) (sym c.self.view_is) ∙ c.in-Some.ensures.value in
    if_block c.in-Some.b.now (λ b. IsSome (at c.loop-i.base.blocks.labels b)) (λ b e.
    subst (λ (ls : List (Option ℕ)). IsSome (at ls b)) (sym c.loop-i.invariant.labels) (c.requires.blocks c.in-Some.n.now b (looked ∙ ap (λ (v : Option ℕ). Some v) e)))

pub put-requires-clause-within : goal.put-requires-clause-within
put-requires-clause-within c =
    let looked = ap (λ (k : KeptMoves). lookup (nat_eq c.in-Some.n.now) k.moves) (sym c.self.view_is) ∙ c.in-Some.ensures.value in
    let top = c.loop-i.invariant.top in
    for_block c.in-Some.b.now (c.in-Some.n.now < length c.loop-i.base.blocks.block_of + c.loop-i.base.blocks.reserved.nodes) (λ b e.
    let below = c.requires.nodes c.in-Some.n.now b (looked ∙ ap (λ (v : Option ℕ). Some v) e) in
    omega (arith, below, top))

pub loop-i-preserved : goal.loop-i-preserved
loop-i-preserved c =
    let inv = c.loop-i.invariant in
    record {
      blocks = moves_next c.args.base.now.blocks.block_of c.loop-i.base.blocks.block_of c.put.new.self.blocks.block_of c.self.inside.moves.entries c.loop-i.i c.in-Some.n.now c.in-Some.b.now
          (sym c.in-Some.ensures.entry) inv.blocks c.put.ensures.blocks;
      labels = c.put.ensures.labels ∙ inv.labels;
      supports = c.put.ensures.supports ∙ inv.supports;
      pairs = c.put.ensures.pairs ∙ inv.pairs;
      top = c.put.ensures.nodes ∙ inv.top;
    }
