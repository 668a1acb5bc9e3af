use Rattle.std.proofs.Common.{◌∙◌, ◌+◌, ◌++◌, ◌∷◌, [], ℕ, List, Some, arith, sym, subst, ap, cond, unwrap_or}
use Rattle.std.specs.Prelude.{nat_eq}
use Rattle.std.specs.Map.{lookup}
use Rattle.quotient_draft.specs.PutLogs.{AreLinked}
use Rattle.quotient_draft.proofs.DraftedMoves.{number_turned}
use Rattle.quotient_draft.proofs.Linked.{linked_more}
use Rattle.quotient_draft.proofs.put_log.PutLog.add.Goals as goal

pub invariant_of-self-2 : goal.invariant_of-self-2
invariant_of-self-2 c =
    let puts = c.self.inside.puts.items in
    let before = c.self.inside.before.items in
    let last = c.self.inside.last.entries in
    let first = c.push_reserved.ensures.items ∙ ap (λ (xs : List (ℕ × ℕ)). xs ++ (c.args.n, c.args.b) ∷ []) c.in_ok-reserve.ensures.items in
    let second = c.push_reserved-2.ensures.items ∙ ap (λ (xs : List ℕ). xs ++ c.unwrap_or.result ∷ []) c.in_ok-reserve-2.ensures.items in
    let len = c.len-place.ensures in
    let ok = c.self.inside.puts.ok in
    let new = linked_more puts before last c.insert.new.self.entries c.args.n c.args.b c.len-place.result c.unwrap_or.result c.self.invariant (omega (arith, len, ok)) (c.unwrap_or.ensures ∙ ap (λ o. unwrap_or o 0) c.in_ok-before.ensures.old)
    (λ x. c.in_ok-before.ensures.updates.0 x ∙ ap (λ t. cond t (Some (c.len-place.result + 1)) (lookup (nat_eq x) last)) (number_turned c.args.b x)) in
    subst (λ (xs : List (ℕ × ℕ)). AreLinked xs c.push_reserved-2.new.self.items c.insert.new.self.entries) (sym first)
    (subst (λ (xs : List ℕ). AreLinked (puts ++ (c.args.n, c.args.b) ∷ []) xs c.insert.new.self.entries) (sym second) new)
