use Rattle.std.proofs.Common.{◌≡◌, ◌+◌, ◌∙◌, ℕ, Some, unwrap_or, subst, sym, ap, arith}
use Rattle.std.specs.List.{slice_get}
use Rattle.std.specs.Map.{lookup}
use Rattle.std.specs.FinMap as map
use Rattle.bisim_spec.specs.IndexGraphs.{support_at}
use Rattle.indexmap.specs.IndexMap.{with_value_at}
use Rattle.indexmap.proofs.CallerLemmas.{updates-with_value_at}
use Rattle.quotient.specs.QuotientNeighbours.{IsPositive}
use Rattle.quotient.specs.QuotientTables.{KeptPairs}
use Rattle.quotient.proofs.Looked.{same, not_other, same_laws, written, positive_with, found_in}
use Rattle.quotient.proofs.supports.Supports.raise_at.Goals as goal

pub overflow_add-count : goal.overflow_add-count
overflow_add-count c =
    let es = c.self.inside.table.entries in
    let this = not_other c.in-Some.pair.now (c.args.a, c.args.b) (sym c.if-ne.false ∙ c.ne.ensures) in
    let there = found_in es c.args.self.now.pairs (c.args.a, c.args.b) (Some c.in-Some.n.now) (ap (λ (k : KeptPairs). k.pairs) c.self.view_is)
    (sym (subst (λ q. lookup (same q) es ≡ Some c.in-Some.n.now) this c.in-Some.ensures.value)) in
    let total : c.in-Some.n.now ≡ support_at c.args.self.now.pairs c.args.a c.args.b = ap (λ o. unwrap_or o 0) there in
    let few = c.requires.few in
    omega (arith, total, few)

pub invariant_of-self : goal.invariant_of-self
invariant_of-self c =
    let es = c.self.inside.table.entries in
    let this = not_other c.in-Some.pair.now (c.args.a, c.args.b) (sym c.if-ne.false ∙ c.ne.ensures) in
    let at : slice_get es c.args.i ≡ Some ((c.args.a, c.args.b), c.in-Some.n.now) = sym c.in-Some.ensures.entry ∙ ap (λ (q : ℕ × ℕ). Some (q, c.in-Some.n.now)) this in
    let now = written es (with_value_at c.self.inside.table c.args.i (c.in-Some.n.now + 1)).entries (c.args.a, c.args.b) (c.in-Some.n.now + 1)
    (updates-with_value_at c.self.inside.table c.args.i (c.in-Some.n.now + 1) same_laws c.in-Some-get_index_mut.ensures.unique (c.args.a, c.args.b) c.in-Some.n.now at).0 in
    subst IsPositive (sym now) (positive_with (map.from_entries es) c.args.a c.args.b c.in-Some.n.now c.self.invariant)

pub returns-clause-raised : goal.returns-clause-raised
returns-clause-raised c _ =
    let es = c.self.inside.table.entries in
    let this = not_other c.in-Some.pair.now (c.args.a, c.args.b) (sym c.if-ne.false ∙ c.ne.ensures) in
    let at : slice_get es c.args.i ≡ Some ((c.args.a, c.args.b), c.in-Some.n.now) = sym c.in-Some.ensures.entry ∙ ap (λ (q : ℕ × ℕ). Some (q, c.in-Some.n.now)) this in
    let now = written es (with_value_at c.self.inside.table c.args.i (c.in-Some.n.now + 1)).entries (c.args.a, c.args.b) (c.in-Some.n.now + 1)
    (updates-with_value_at c.self.inside.table c.args.i (c.in-Some.n.now + 1) same_laws c.in-Some-get_index_mut.ensures.unique (c.args.a, c.args.b) c.in-Some.n.now at).0 in
    let there = found_in es c.args.self.now.pairs (c.args.a, c.args.b) (Some c.in-Some.n.now) (ap (λ (k : KeptPairs). k.pairs) c.self.view_is)
    (sym (subst (λ q. lookup (same q) es ≡ Some c.in-Some.n.now) this c.in-Some.ensures.value)) in
    let total : c.in-Some.n.now ≡ support_at c.args.self.now.pairs c.args.a c.args.b = ap (λ o. unwrap_or o 0) there in
    rw (← total, ← (ap (λ (k : KeptPairs). k.pairs) c.self.view_is)) now
