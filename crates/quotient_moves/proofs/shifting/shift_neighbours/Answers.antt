use Rattle.std.proofs.Common.{◌≡◌, ◌∙◌, ℕ, Bool, List, Option, Some, ◌^◌, get_or, slice_set, arith, sym, ap, subst}
use Rattle.quotient.specs.QuotientNeighbours.{one_if}
use Rattle.quotient_draft.specs.Drafts.{with_moves, shown_blocks, shown_support}
use Rattle.quotient_moves.specs.Shifts.{leads, lead_count, MovesNode}
use Rattle.quotient_moves.proofs.Moved.{moved_set, moved_same, still_some, still_few, shifted_next, all_taken}
use Rattle.quotient_moves.proofs.shifting.shift_neighbours.Goals as goal

pub shift_neighbour-requires-clause-some : goal.shift_neighbour-requires-clause-some
shift_neighbour-requires-clause-some c = λ x y h.
    let q = c.args.base.now in
    let p = shown_blocks q c.args.draft.now in
    let p2 = slice_set p c.args.n (Some c.args.b) in
    let inv = c.loop-m.invariant in
    let f : List (Option ℕ) → ℕ → Bool = λ r. λ m. leads c.args.side r c.args.n x y m in
    still_some (f p) (f p2) c.args.neighbours.now c.loop-m.m-index (shown_support q c.loop-m.draft x y) (shown_support q c.args.draft.now x y) c.loop-m-test.true
    (ap (λ ms. f (with_moves q.blocks.block_of ms) (get_or c.args.neighbours.now c.loop-m.m-index 0)) (sym inv.moves) ∙ h)
    (inv.shifted x y p2 (moved_set c.args.n c.args.own c.args.b p c.requires.own)) (c.requires.some x y)

pub shift_neighbour-requires-clause-few : goal.shift_neighbour-requires-clause-few
shift_neighbour-requires-clause-few c = λ x y p2 d h.
    let q = c.args.base.now in
    let p = shown_blocks q c.args.draft.now in
    let inv = c.loop-m.invariant in
    let f : List (Option ℕ) → ℕ → Bool = λ r. λ m. leads c.args.side r c.args.n x y m in
    let e = moved_same c.args.n c.args.own c.args.b p (shown_blocks q c.loop-m.draft) p2 (ap (with_moves q.blocks.block_of) inv.moves) d in
    still_few (f p) (f p2) c.args.neighbours.now c.loop-m.m-index (shown_support q c.loop-m.draft x y) (shown_support q c.args.draft.now x y) (2 ^ 31) c.loop-m-test.true h
    (inv.shifted x y p2 e) (c.requires.few x y p2 e)

pub loop-m-preserved : goal.loop-m-preserved
loop-m-preserved c =
    let q = c.args.base.now in
    let p = shown_blocks q c.args.draft.now in
    let inv = c.loop-m.invariant in
    let stay = ap (with_moves q.blocks.block_of) inv.moves in
    let step = c.in_ok-shift_neighbour.ensures in
    record {
      added = step.added ∙ inv.added;
      moves = step.moves ∙ inv.moves;
      over = step.over;
      shifted = λ x y p2 d.
          let m = get_or c.args.neighbours.now c.loop-m.m-index 0 in
          let once = step.shifted x y p2 (subst (λ r. MovesNode c.args.n c.args.own c.args.b r p2) (sym stay) d) in
          let alike : one_if (leads c.args.side (shown_blocks q c.loop-m.draft) c.args.n x y m) ≡ one_if (leads c.args.side p c.args.n x y m) = ap (λ r. one_if (leads c.args.side r c.args.n x y m)) stay in
          shifted_next (λ m. leads c.args.side p c.args.n x y m) (λ m. leads c.args.side p2 c.args.n x y m) c.args.neighbours.now c.loop-m.m-index (shown_support q c.loop-m.draft x y) (shown_support q c.shift_neighbour.new.draft x y)
          (shown_support q c.args.draft.now x y) c.loop-m-test.true (inv.shifted x y p2 d) (omega (arith, once, alike));
    }

pub returns-clause-shifted : goal.returns-clause-shifted
returns-clause-shifted c = λ x y p2 d.
    let p = shown_blocks c.args.base.now c.args.draft.now in
    let all = all_taken c.args.neighbours.now c.loop-m.m-index (omega arith) in
    let k = c.loop-m.invariant.shifted x y p2 d in
    let a = ap (lead_count c.args.side p c.args.n x y) all in
    let b = ap (lead_count c.args.side p2 c.args.n x y) all in
    omega (arith, k, a, b)
