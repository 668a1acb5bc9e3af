use Rattle.std.proofs.Common.{refl, sym, ◌∙◌, subst, true≢false}
use Rattle.bisim_spec.specs.Stability.{StableBoth}
use Rattle.bisim_spec.proofs.Stable.{fb_stable}
use Rattle.round_refinement.specs.NumberedShapes.{digraph_shape}
use Rattle.round_refinement.specs.Active.{IsCoarse}
use Rattle.round_refinement.proofs.LevelLaws.{is_shape_by_number}
use Rattle.index_check.proofs.LevelLaws.{found_full, full_found}
use Rattle.index_check.proofs.both.fits_both.Goals as goal

pub returns-then-not-stable : goal.returns-then-not-stable
returns-then-not-stable g c =
    let s = digraph_shape g.G.Digraph c.args.g.now in
    let shape = is_shape_by_number (g.G.Digraph.span c.args.g.now) (g.G.Digraph.label_at c.args.g.now) (g.G.Digraph.edge c.args.g.now) (g.met.G.Digraph.below c.args.g.now) (g.met.G.Digraph.ends c.args.g.now) in
    (λ h. absurd (true≢false (sym h)), λ a. absurd (true≢false (sym (c.in_ok-stable.ensures.1 (fb_stable s c.args.block.now shape a)) ∙ c.if-not-stable.true)))

pub returns-then-found : goal.returns-then-found
returns-then-found g c =
    let s = digraph_shape g.G.Digraph c.args.g.now in
    let coarse = subst (IsCoarse s) (sym c.deref.ensures.value) c.in_ok-coarse.ensures in (
      λ h. found_full s c.args.block.now c.deref.result.now (c.in_ok-stable.ensures.0 c.if-not-stable.false) coarse (c.in_ok-found.ensures.0 c.if-found.true),
      λ a. refl,
    )

pub is_stable_both-requires-2 : goal.is_stable_both-requires-2
is_stable_both-requires-2 g c =
    let s = digraph_shape g.G.Digraph c.args.g.now in
    let coarse = subst (IsCoarse s) (sym c.deref-2.ensures.value) c.in_ok-coarse.ensures in
    record { partition = coarse.partition }

pub returns-then-whole : goal.returns-then-whole
returns-then-whole g c =
    let s = digraph_shape g.G.Digraph c.args.g.now in
    let coarse = subst (IsCoarse s) (sym c.deref.ensures.value) c.in_ok-coarse.ensures in
    let st = subst (StableBoth s) (c.deref-2.ensures.value ∙ sym c.deref.ensures.value) (c.in_ok-whole.ensures.0 c.if-whole.true) in (
      λ h. absurd (true≢false (sym h)),
      λ a. absurd (true≢false (sym (c.in_ok-found.ensures.1 (full_found s c.args.block.now c.deref.result.now st coarse a)) ∙ c.if-found.false)),
    )
