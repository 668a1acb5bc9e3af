use Rattle.std.proofs.Common.{◌∙◌, ℕ, List, Option, Some, sym, subst, ap, cond, ◌<◌, ◌≤◌, length, arith}
use Rattle.std.specs.Prelude.{nat_eq}
use Rattle.std.specs.Map.{lookup}
use Rattle.quotient_draft.proofs.AppliedDrafts.{if_block}
use Rattle.graph_spec.specs.Members.{at, is_this}
use Rattle.quotient_draft.specs.Drafts.{with_moves}
use Rattle.quotient_draft.specs.MoveTables.{KeptMoves, counted, into_count, taken_count, AreTaken}
use Rattle.quotient_draft.proofs.ShownCounts.{value_count, key_count, length_again, moved_counted, put_more}
use Rattle.quotient_draft.proofs.DraftedMoves.{moves_written, number_turned}
use Rattle.quotient_draft.proofs.moves.Moves.put_again.Goals as goal

pub returns-clause-shown : goal.returns-clause-shown
returns-clause-shown c = λ block m.
    moves_written block c.self.inside.moves.entries c.insert.new.self.entries c.args.n c.args.b c.self.invariant.once c.in_ok-insert.ensures.unique
    (λ q. c.in_ok-insert.ensures.updates.0 q ∙ ap (λ t. cond t (Some c.args.b) (lookup (nat_eq q) c.self.inside.moves.entries)) (number_turned c.args.n q)) m
    ∙ ap (λ (k : KeptMoves). cond (nat_eq m c.args.n) c.args.b (at (with_moves block k.moves) m)) c.self.view_is

pub uncount_block-requires : goal.uncount_block-requires
uncount_block-requires c =
    let m = c.self.inside.moves in
    let own = ap (λ (k : KeptMoves). lookup (nat_eq c.args.n) k.moves) c.self.view_is ∙ c.requires in
    if_block c.args.own (λ b. 0 < counted c.count_block.new.counts.entries b) (λ b e.
    let some = moved_counted m.entries c.args.n b (own ∙ ap (λ (v : Option ℕ). Some v) e) in
    let is = c.self.invariant.into_are b in
    let same = ap (λ (es : List (ℕ × ℕ)). counted es b) c.in_ok-reserve-2.ensures.entries in
    let more = c.count_block.ensures b in
    omega (arith, some, is, same, more))

pub invariant_of-self-2 : goal.invariant_of-self-2
invariant_of-self-2 c =
    let m = c.self.inside.moves in
    let own = ap (λ (k : KeptMoves). lookup (nat_eq c.args.n) k.moves) c.self.view_is ∙ c.requires in
    record {
      once = c.in_ok-insert.ensures.unique;
      into_are = λ x.
          (let is = c.self.invariant.into_are x in
          let same = ap (λ (es : List (ℕ × ℕ)). counted es x) c.in_ok-reserve-2.ensures.entries in
          let more = c.count_block.ensures x in
          let fewer = c.uncount_block.ensures x in
          let law = value_count (is_this x) m.entries c.args.n c.args.b c.args.own own in
          let new = ap (λ (es : List (ℕ × Option ℕ)). into_count es x) c.in_ok-insert.ensures.entries in
          omega (arith, is, same, more, fewer, law, new));
      few = λ x. subst (λ k. counted c.self.inside.taken.entries x ≤ k) (sym (ap (λ (es : List (ℕ × Option ℕ)). length es) c.in_ok-insert.ensures.entries ∙ length_again m.entries c.args.n c.args.b c.args.own own)) (c.self.invariant.few x);
      put = put_more m.entries c.insert.new.self.entries c.self.inside.puts c.add_put.new.puts c.args.n c.args.b c.add_put.ensures.kept c.in_ok-add_put.ensures.put
          (λ q. c.in_ok-insert.ensures.updates.0 q ∙ ap (λ t. cond t (Some c.args.b) (lookup (nat_eq q) m.entries)) (number_turned c.args.n q)) c.self.invariant.put;
    }

pub returns-clause-taken : goal.returns-clause-taken
returns-clause-taken c = λ block are x.
    let m = c.self.inside.moves in
    let own = ap (λ (k : KeptMoves). lookup (nat_eq c.args.n) k.moves) c.self.view_is ∙ c.requires in
    let before = subst (λ (k : KeptMoves). AreTaken block k.moves k.taken) (sym c.self.view_is) are in
    before x ∙ sym (ap (λ (es : List (ℕ × Option ℕ)). taken_count block es x) c.in_ok-insert.ensures.entries ∙ key_count (λ q. is_this x (at block q)) m.entries c.args.n c.args.b c.args.own own)
