use Rattle.std.proofs.Common.{◌+◌, ◌∙◌, ℕ, List, inl, inr, get_or, take, refl, sym, subst, true≢false}
use Rattle.std.specs.Prelude.{slice_get, IsSome}
use Rattle.state_sets.specs.StateSets.{Behind}
use Rattle.walk_proof.specs.declared.marks.Pair.{Pair}
use Rattle.walk_proof.specs.Marking.{Among}
use Rattle.walk_proof.specs.Layering.{IsPassing, IsLeastOf}
use Rattle.walk_proof.proofs.PairLists.{no_pair, among_at, among_take_cases, take_grows, take_last, take_all}
use Rattle.walk_proof.proofs.LeastLaws.{least_still, least_more}
use Rattle.walk_proof.proofs.tracing.least_first.Goals as goal
use Rattle.walk_proof.proofs.tracing.least_first.Goals.{then-is_first, else-is_first}

pub is_first-requires-clause-pair : goal.is_first-requires-clause-pair
is_first-requires-clause-pair g c =
    let p = get_or c.args.layer.now c.loop-i.i no_pair in
    c.requires.layer p.state p.place (among_at c.args.layer.now c.loop-i.i p c.loop-i-test.true refl)

pub loop-i-preserved : goal.loop-i-preserved
loop-i-preserved g c =
    let at = λ (k : ℕ). slice_get c.args.program.now k in
    let label_at = g.G.Digraph.label_at c.args.g.now in
    let states = c.args.states.now.members in
    let layer = c.args.layer.now in
    let i = c.loop-i.i in
    let within = c.loop-i-test.true in
    let p = get_or layer i no_pair in
    let First : List Pair → ℕ → Type 0 = λ pairs x. IsSome (label_at x) × IsPassing at label_at (Among pairs) states x in
    let P : ℕ → Type 0 = First (take i layer) in
    let Q : ℕ → Type 0 = First (take (i + 1) layer) in
    let on : (x : ℕ) → P x → Q x = λ x h. (h.0, (h.1.0, h.1.1, take_grows layer i h.1.0 x h.1.2)) in
    elim c.if-is_first.branch [
      | then-is_first w ↦
          let yes = c.is_first.ensures.yes w.if-is_first.true in
          subst (IsLeastOf Q) (sym w.best-is)
          (least_more P Q on p.place c.loop-i.best w.lesser.result
          (λ x h. elim (among_take_cases layer i p within refl h.1.0 x h.1.2) [ inl old ↦ inl (h.0, (h.1.0, h.1.1, old)) | inr e ↦ inr e.1 ])
          (yes.0, (p.state, yes.1, take_last layer i p within refl)) w.lesser.ensures.bound w.lesser.ensures.best w.lesser.ensures.one c.loop-i.invariant)
      | else-is_first w ↦ subst (IsLeastOf Q) (sym w.best-is)
          (least_still P Q on c.loop-i.best
          (λ x h. elim (among_take_cases layer i p within refl h.1.0 x h.1.2) [
            | inl old ↦ (h.0, (h.1.0, h.1.1, old))
            | inr e ↦
                let some = subst (λ y. IsSome (label_at y)) e.1 h.0 in
                let behind = subst (λ y. Behind at label_at states y p.state) e.1 (subst (λ k. Behind at label_at states x k) e.0 h.1.1) in
                absurd (true≢false (sym (c.is_first.ensures.all some behind) ∙ w.if-is_first.false))
          ]) c.loop-i.invariant)
    ]

pub returns : goal.returns
returns g c =
    let at = λ (k : ℕ). slice_get c.args.program.now k in
    let label_at = g.G.Digraph.label_at c.args.g.now in
    subst (λ pairs. IsLeastOf (λ x. IsSome (label_at x) × IsPassing at label_at (Among pairs) c.args.states.now.members x) c.loop-i.best)
    (take_all c.args.layer.now c.loop-i.i c.loop-i-test.false) c.loop-i.invariant
