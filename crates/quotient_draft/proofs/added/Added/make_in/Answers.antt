use Rattle.std.proofs.Common.{◌∙◌, ℕ, List, arith, sym, subst, ap, length}
use Rattle.std.specs.Prelude.{slice_get}
use Rattle.quotient.specs.Quotients.{Quotient, ReservedPairs}
use Rattle.quotient_draft.specs.Basis.{AreLeastFree}
use Rattle.quotient_draft.proofs.AppliedDrafts.{same_number_given, added_next}
use Rattle.quotient_draft.proofs.added.Added.make_in.Goals as goal

pub new_block-requires-clause-span : goal.new_block-requires-clause-span
new_block-requires-clause-span c = λ b free.
    let labels = c.args.base.now.blocks.labels in
    let es = c.self.inside.blocks.entries in
    let least = subst (AreLeastFree labels) (sym c.self.view_is) c.requires.least in
    let entry = sym c.in-Some.ensures.entry in
    let same = same_number_given labels c.loop-i.base.blocks.labels es c.loop-i.i b (c.in-Some.field-0-0.now, c.in-Some.label.now) least entry c.loop-i.invariant.labels free in
    let below = c.requires.span c.loop-i.i (c.in-Some.field-0-0.now, c.in-Some.label.now) (ap (λ (xs : List (ℕ × ℕ)). slice_get xs c.loop-i.i) (sym c.self.view_is) ∙ entry) in
    let reserved = ap (λ (r : ReservedPairs). r.span) c.loop-i.invariant.pairs in
    omega (arith, same, below, reserved)

pub loop-i-preserved : goal.loop-i-preserved
loop-i-preserved c =
    let labels = c.args.base.now.blocks.labels in
    let es = c.self.inside.blocks.entries in
    let least = subst (AreLeastFree labels) (sym c.self.view_is) c.requires.least in
    let inv = c.loop-i.invariant in
    let made = c.new_block.ensures.added in
    let rest = inv.rest in
    let within = c.loop-i-test.true in
    let len = c.len-i-end.ensures.len in
    let all = ap (λ (xs : List (ℕ × ℕ)). length xs) c.self.view_is in
    let enough = c.requires.reserved in
    let one = ap (λ (q : Quotient). q.blocks.reserved.blocks) made in
    record {
      labels = added_next labels c.loop-i.base.blocks.labels c.new_block.new.self.blocks.labels es c.loop-i.i c.new_block.result (c.in-Some.field-0-0.now, c.in-Some.label.now) least
          (sym c.in-Some.ensures.entry) inv.labels c.new_block.ensures.least (ap (λ (q : Quotient). q.blocks.labels) made);
      blocks = ap (λ (q : Quotient). q.blocks.block_of) made ∙ inv.blocks;
      nodes = ap (λ (q : Quotient). q.blocks.reserved.nodes) made ∙ inv.nodes;
      supports = ap (λ (q : Quotient). q.supports) made ∙ inv.supports;
      pairs = ap (λ (q : Quotient). q.reserved) made ∙ inv.pairs;
      rest = omega (arith, rest, within, len, all, enough, one);
    }
