use Rattle.std.proofs.Common.{◌≡◌, ◌≤◌, ◌<◌, ◌^◌, ℕ, Option, Some, arith, sym, subst, ap, count_by}
use Rattle.std.specs.Prelude.{nat_eq}
use Rattle.std.specs.Map.{lookup}
use Rattle.std.proofs.lemmas.List.Sums.{count_by-le-length}
use Rattle.graph_spec.specs.Members.{is_this}
use Rattle.quotient_draft.specs.Drafts.{with_moves}
use Rattle.quotient_draft.specs.MoveTables.{KeptMoves, AreTaken}
use Rattle.quotient_draft.proofs.ShownCounts.{shown_count, shown_few}
use Rattle.quotient_draft.proofs.moves.Moves.member_count.Goals as goal

pub overflow_sub-held : goal.overflow_sub-held
overflow_sub-held c =
    let block = c.args.base.now.blocks.block_of in
    let es = c.self.inside.moves.entries in
    let are = subst (λ (k : KeptMoves). AreTaken block k.moves k.taken) (sym c.self.view_is) c.requires.taken c.args.b in
    let all = shown_count block es c.args.b c.self.invariant.once in
    let into_is = c.self.invariant.into_are c.args.b in
    let few = count_by-le-length (λ (e : ℕ × Option ℕ). is_this c.args.b e.1) es in
    let into = c.count_of.ensures in
    let len = c.len.ensures.len in
    let least = c.min-into.ensures in
    let held = c.held_in.ensures in
    let taken = c.count_of-2.ensures in
    omega (arith, are, all, into_is, few, into, len, least, held, taken)

pub returns : goal.returns
returns c =
    let block = c.args.base.now.blocks.block_of in
    let es = c.self.inside.moves.entries in
    let are = subst (λ (k : KeptMoves). AreTaken block k.moves k.taken) (sym c.self.view_is) c.requires.taken c.args.b in
    let all = shown_count block es c.args.b c.self.invariant.once in
    let into_is = c.self.invariant.into_are c.args.b in
    let few = count_by-le-length (λ (e : ℕ × Option ℕ). is_this c.args.b e.1) es in
    let into = c.count_of.ensures in
    let len = c.len.ensures.len in
    let least = c.min-into.ensures in
    let held = c.held_in.ensures in
    let taken = c.count_of-2.ensures in
    let list = subst (λ n. n ≤ 2 ^ 31) c.numbers.ensures.count c.numbers.ensures.few in
    let below = subst (λ (k : KeptMoves). (n b : ℕ) → lookup (nat_eq n) k.moves ≡ Some (Some b) → n < 2 ^ 31) (sym c.self.view_is) c.requires.numbers in
    let most = shown_few block es c.args.b (2 ^ 31) c.self.invariant.once list below in
    let top = c.max-numbers.ensures in
    let cut = c.min.ensures in
    let same = ap (λ (k : KeptMoves). count_by (is_this c.args.b) (with_moves block k.moves)) c.self.view_is in
    omega (arith, are, all, into_is, few, into, len, least, held, taken, most, top, cut, same)
