use Rattle.std.proofs.Common.{◌≡◌, ◌∙◌, ℕ, arith, inl, inr, Some}
use Rattle.branch_expr.proofs.Taken.{filtered_run}
use Rattle.branch_expr.proofs.sets.keep_labelled.Goals as goal

pub keep_listed-requires : goal.keep_listed-requires
keep_listed-requires g c n h =
    let now = c.loop-from.set.members in
    let count = c.note_members-count.result in
    let run = c.note_members-count.ensures.noted in
    let below = ((run n).0 h).1 in
    let within = c.end_of_run-to.ensures.within in
    let size = c.size-in-loop-from.ensures.size in
    omega (arith, below, within, size)

pub loop-from-preserved : goal.loop-from-preserved
loop-from-preserved g c =
    let P : ℕ → Type 0 = λ m. g.G.Digraph.label_at c.args.g.now m ≡ Some c.args.label in
    let now = c.loop-from.set.members in
    let count = c.note_members-count.result in
    let from = c.loop-from.from in
    let to = c.end_of_run-to.result in
    let run = c.note_members-count.ensures.noted in
    let size = c.size-in-loop-from.ensures.size in
    let within = c.end_of_run-to.ensures.within in
    let kept = c.keep_listed.ensures.size in
    record {
      size = c.keep_listed.ensures.size ∙ c.loop-from.invariant.size;
      length = c.note_members-count.ensures.length ∙ c.loop-from.invariant.length;
      within = omega (arith, size, within, kept);
      so_far = filtered_run P c.args.set.now.members now c.keep_listed.new.set.members _ from to c.end_of_run-to.ensures.more run
          c.loop-from.invariant.so_far c.keep_listed.ensures.members;
    }

pub returns-clause-members : goal.returns-clause-members
returns-clause-members g c n =
    let all = c.loop-from.invariant.so_far n in
    let past = c.loop-from-test.false in
    let size = c.size.ensures.size in (
      λ m.
          let p = all.0 m in
          let below = c.size.ensures.below n m in
          (p.0, elim p.1 [ inl behind ↦ absurd (omega (arith, past, size, below, behind)) | inr label ↦ label ]),
      λ p. all.1 (p.0, inr p.1),
    )
