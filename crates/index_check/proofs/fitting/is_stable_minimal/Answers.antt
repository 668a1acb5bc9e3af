use Rattle.std.proofs.Common.{◌↔◌, Bool, IsTrue, true≢false, sym, ◌∙◌}
use Rattle.std.proofs.lemmas.Result.{IfOk-weaker}
use Rattle.bisim_spec.specs.Stability.{Minimal}
use Rattle.round_refinement.specs.NumberedShapes.{digraph_shape}
use Rattle.index_check.proofs.fitting.is_stable_minimal.Goals as goal

pub is_minimal-requires : goal.is_minimal-requires
is_minimal-requires g c = record { stable = c.in_ok-stable.ensures.0 c.if-stable.true }

pub returns-then-stable : goal.returns-then-stable
returns-then-stable g c =
    let s = digraph_shape g.G.Digraph c.args.g.now in
    let stable = c.in_ok-stable.ensures.0 c.if-stable.true in
    IfOk-weaker c.is_minimal.result (λ (yes : Bool). IsTrue yes ↔ Minimal s c.args.block.now) _
    (λ yes e. (λ h. record { stable = stable; minimal = e.0 h }, λ m. e.1 m.minimal)) c.is_minimal.ensures

pub returns-else-stable : goal.returns-else-stable
returns-else-stable g c = (λ h. absurd (true≢false (sym h)), λ m. absurd (true≢false (sym (c.in_ok-stable.ensures.1 m.stable) ∙ c.if-stable.false)))
