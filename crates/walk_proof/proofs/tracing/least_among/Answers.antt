use Rattle.std.proofs.Common.{◌+◌, ◌∙◌, ℕ, inl, inr, get_or, take, sym, subst, true≢false, IsTrue}
use Rattle.std.specs.Prelude.{slice_get}
use Rattle.graph_spec.specs.Members.{has}
use Rattle.state_sets.proofs.Lists.{take_cases, take_grows, take_last}
use Rattle.walk_proof.specs.Marking.{IsMarked}
use Rattle.walk_proof.specs.Layering.{IsPassing, IsLeastOf}
use Rattle.walk_proof.proofs.LeastLaws.{least_still, least_more, all_taken}
use Rattle.walk_proof.proofs.tracing.least_among.Goals as goal
use Rattle.walk_proof.proofs.tracing.least_among.Goals.{then-is_passing, else-is_passing}

pub loop-i-preserved : goal.loop-i-preserved
loop-i-preserved g c =
    let Passing : ℕ → Type 0 = IsPassing (λ (k : ℕ). slice_get c.args.program.now k) (g.G.Digraph.label_at c.args.g.now) (IsMarked c.args.rows.now) c.args.states.now in
    let nodes = c.args.nodes.now in
    let i = c.loop-i.i in
    let within = c.loop-i-test.true in
    let n = get_or nodes i 0 in
    let P : ℕ → Type 0 = λ x. IsTrue (has (take i nodes) x) × Passing x in
    let Q : ℕ → Type 0 = λ x. IsTrue (has (take (i + 1) nodes) x) × Passing x in
    let on : (x : ℕ) → P x → Q x = λ x h. (take_grows nodes i x h.0, h.1) in
    elim c.if-is_passing.branch [
      | then-is_passing w ↦ subst (IsLeastOf Q) (sym w.best-is)
          (least_more P Q on n c.loop-i.best w.lesser.result
          (λ x h. elim (take_cases nodes i within x h.0) [ inl old ↦ inl (old, h.1) | inr e ↦ inr e ])
          (take_last nodes i within, c.is_passing.ensures.yes w.if-is_passing.true) w.lesser.ensures.bound w.lesser.ensures.best w.lesser.ensures.one c.loop-i.invariant)
      | else-is_passing w ↦ subst (IsLeastOf Q) (sym w.best-is)
          (least_still P Q on c.loop-i.best
          (λ x h. elim (take_cases nodes i within x h.0) [
            | inl old ↦ (old, h.1)
            | inr e ↦ absurd (true≢false (sym (c.is_passing.ensures.all (subst Passing e h.1)) ∙ w.if-is_passing.false))
          ]) c.loop-i.invariant)
    ]

pub returns : goal.returns
returns g c =
    let Passing : ℕ → Type 0 = IsPassing (λ (k : ℕ). slice_get c.args.program.now k) (g.G.Digraph.label_at c.args.g.now) (IsMarked c.args.rows.now) c.args.states.now in
    subst (λ xs. IsLeastOf (λ x. IsTrue (has xs x) × Passing x) c.loop-i.best) (all_taken c.args.nodes.now c.loop-i.i c.loop-i-test.false) c.loop-i.invariant
