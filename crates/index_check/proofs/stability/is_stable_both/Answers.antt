use Rattle.std.proofs.Common.{refl, sym, ◌∙◌, true≢false}
use Rattle.round_refinement.specs.NumberedShapes.{digraph_shape}
use Rattle.index_check.proofs.LevelLaws.{determines_as}
use Rattle.round_refinement.proofs.LevelLaws.{node_of, of_node}
use Rattle.index_check.proofs.Stable.{stable_both_where, stays_both_where}
use Rattle.index_check.proofs.stability.is_stable_both.Goals as goal

pub refine-requires-clause-own : goal.refine-requires-clause-own
refine-requires-clause-own g c = λ n h. node_of (g.G.Digraph.label_at c.args.g.now n) (c.requires.partition.only n h)

pub refine-requires-clause-base : goal.refine-requires-clause-base
refine-requires-clause-base g c = λ n h. c.requires.partition.live n (of_node (g.G.Digraph.label_at c.args.g.now n) h)

pub returns-then-not-stable : goal.returns-then-not-stable
returns-then-not-stable g c = (λ h. absurd (true≢false (sym h)), λ st. absurd (true≢false (sym (c.in_ok-stable.ensures.1 st.stable) ∙ c.if-not-stable.true)))

pub returns : goal.returns
returns g c =
    let s = digraph_shape g.G.Digraph c.args.g.now in (
      λ h. stable_both_where s c.args.block.now c.in_ok-next.next.items (c.in_ok-stable.ensures.0 c.if-not-stable.false) c.in_ok-next.ensures
          (determines_as _ _ _ _ refl c.deref.ensures.value (c.in_ok-stays.ensures.0 h)),
      λ st. c.in_ok-stays.ensures.1 (determines_as _ _ _ _ refl (sym c.deref.ensures.value) (stays_both_where s c.args.block.now c.in_ok-next.next.items c.in_ok-next.ensures st)),
    )
