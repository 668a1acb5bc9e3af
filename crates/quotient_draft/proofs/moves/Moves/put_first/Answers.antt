use Rattle.std.proofs.Common.{◌∙◌, ℕ, List, Option, Some, sym, subst, ap, cond, ◌+◌, length, arith}
use Rattle.std.specs.Prelude.{nat_eq}
use Rattle.std.specs.Map.{lookup}
use Rattle.indexmap.proofs.CallerLemmas.{insert_entry-new}
use Rattle.graph_spec.specs.Members.{at, is_this}
use Rattle.quotient.specs.QuotientNeighbours.{one_if}
use Rattle.quotient_draft.specs.Drafts.{with_moves}
use Rattle.quotient_draft.specs.MoveTables.{KeptMoves, counted, into_count, taken_count, AreTaken}
use Rattle.quotient_draft.proofs.ShownCounts.{count_last, length_last, bit_few, put_more}
use Rattle.quotient_draft.proofs.DraftedMoves.{moves_written, number_turned}
use Rattle.quotient_draft.proofs.moves.Moves.put_first.Goals as goal

pub returns-clause-shown : goal.returns-clause-shown
returns-clause-shown c = λ block m.
    moves_written block c.self.inside.moves.entries c.insert.new.self.entries c.args.n c.args.b c.self.invariant.once c.in_ok-insert.ensures.unique
    (λ q. c.in_ok-insert.ensures.updates.0 q ∙ ap (λ t. cond t (Some c.args.b) (lookup (nat_eq q) c.self.inside.moves.entries)) (number_turned c.args.n q)) m
    ∙ ap (λ (k : KeptMoves). cond (nat_eq m c.args.n) c.args.b (at (with_moves block k.moves) m)) c.self.view_is

pub invariant_of-self-2 : goal.invariant_of-self-2
invariant_of-self-2 c =
    let m = c.self.inside.moves in
    let none = ap (λ (k : KeptMoves). lookup (nat_eq c.args.n) k.moves) c.self.view_is ∙ c.requires in
    let entries = c.in_ok-insert.ensures.entries ∙ insert_entry-new nat_eq m c.args.n c.args.b none in
    record {
      once = c.in_ok-insert.ensures.unique;
      into_are = λ x.
          c.count_block.ensures x ∙ ap (λ (es : List (ℕ × ℕ)). counted es x + one_if (is_this x c.args.b)) c.in_ok-reserve-2.ensures.entries
          ∙ ap (λ k. k + one_if (is_this x c.args.b)) (c.self.invariant.into_are x)
          ∙ sym (ap (λ (es : List (ℕ × Option ℕ)). into_count es x) entries ∙ count_last (λ (e : ℕ × Option ℕ). is_this x e.1) m.entries (c.args.n, c.args.b));
      few = λ x.
          (let old = c.self.invariant.few x in
          let one = c.count_block-2.ensures x in
          let same = ap (λ (es : List (ℕ × ℕ)). counted es x) c.in_ok-reserve-3.ensures.entries in
          let bit = bit_few (is_this x c.args.own) in
          let len = ap (λ (es : List (ℕ × Option ℕ)). length es) entries ∙ length_last m.entries (c.args.n, c.args.b) in
          omega (arith, old, one, same, bit, len));
      put = put_more m.entries c.insert.new.self.entries c.self.inside.puts c.add_put.new.puts c.args.n c.args.b c.add_put.ensures.kept c.in_ok-add_put.ensures.put
          (λ q. c.in_ok-insert.ensures.updates.0 q ∙ ap (λ t. cond t (Some c.args.b) (lookup (nat_eq q) m.entries)) (number_turned c.args.n q)) c.self.invariant.put;
    }

pub returns-clause-taken : goal.returns-clause-taken
returns-clause-taken c = λ block own are x.
    let m = c.self.inside.moves in
    let none = ap (λ (k : KeptMoves). lookup (nat_eq c.args.n) k.moves) c.self.view_is ∙ c.requires in
    let entries = c.in_ok-insert.ensures.entries ∙ insert_entry-new nat_eq m c.args.n c.args.b none in
    let before = subst (λ (k : KeptMoves). AreTaken block k.moves k.taken) (sym c.self.view_is) are in
    c.count_block-2.ensures x ∙ ap (λ (es : List (ℕ × ℕ)). counted es x + one_if (is_this x c.args.own)) c.in_ok-reserve-3.ensures.entries
    ∙ ap (λ k. k + one_if (is_this x c.args.own)) (before x) ∙ ap (λ o. taken_count block m.entries x + one_if (is_this x o)) (sym own)
    ∙ sym (ap (λ (es : List (ℕ × Option ℕ)). taken_count block es x) entries ∙ count_last (λ (e : ℕ × Option ℕ). is_this x (at block e.0)) m.entries (c.args.n, c.args.b))
