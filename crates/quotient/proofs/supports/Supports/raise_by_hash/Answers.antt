use Rattle.std.proofs.Common.{◌≡◌, ◌+◌, ◌∙◌, Some, unwrap_or, subst, sym, ap, arith}
use Rattle.std.specs.FinMap as map
use Rattle.bisim_spec.specs.IndexGraphs.{SupportTable, support_at}
use Rattle.indexmap.specs.IndexMap.{with_value_at}
use Rattle.indexmap.proofs.CallerLemmas.{updates-with_value_at}
use Rattle.quotient.specs.QuotientNeighbours.{IsPositive}
use Rattle.quotient.proofs.Looked.{same_laws, written, twice, stands_put, positive_with, found_in}
use Rattle.quotient.specs.QuotientTables.{KeptPairs}
use Rattle.quotient.proofs.supports.Supports.raise_by_hash.Goals as goal

pub overflow_add-count : goal.overflow_add-count
overflow_add-count c =
    let there : Some c.in-Some.n ≡ map.get c.args.self.now.pairs (c.args.a, c.args.b) =
    sym c.in-Some.is ∙ found_in c.self.inside.table.entries c.args.self.now.pairs (c.args.a, c.args.b) _ (ap (λ (k : KeptPairs). k.pairs) c.self.view_is) c.in_ok-i.ensures.old in
    let total : c.in-Some.n ≡ support_at c.args.self.now.pairs c.args.a c.args.b = ap (λ o. unwrap_or o 0) there in
    let few = c.requires.few in
    omega (arith, total, few)

pub invariant_of-self-in_default : goal.invariant_of-self-in_default
invariant_of-self-in_default c =
    let now = written c.self.inside.table.entries c.insert_full.new.self.entries (c.args.a, c.args.b) 1 c.in_ok-i.ensures.updates.0 in
    subst IsPositive (sym now) (positive_with (map.from_entries c.self.inside.table.entries) c.args.a c.args.b 0 c.self.invariant)

pub returns-in_default : goal.returns-in_default
returns-in_default c =
    let none : 0 ≡ support_at c.args.self.now.pairs c.args.a c.args.b =
    ap (λ o. unwrap_or o 0) (sym c.in_default.is ∙ found_in c.self.inside.table.entries c.args.self.now.pairs (c.args.a, c.args.b) _ (ap (λ (k : KeptPairs). k.pairs) c.self.view_is) c.in_ok-i.ensures.old) in
    rw (← none, ← (ap (λ (k : KeptPairs). k.pairs) c.self.view_is)) (written c.self.inside.table.entries c.insert_full.new.self.entries (c.args.a, c.args.b) 1 c.in_ok-i.ensures.updates.0)

pub invariant_of-self-2 : goal.invariant_of-self-2
invariant_of-self-2 c =
    let es = c.self.inside.table.entries in
    let one = written es c.insert_full.new.self.entries (c.args.a, c.args.b) 1 c.in_ok-i.ensures.updates.0 in
    let at = stands_put es c.insert_full.new.self.entries (c.args.a, c.args.b) 1 c.in_ok-i.i c.in_ok-i.ensures.entries c.in_ok-i.ensures.index in
    let now =
    written c.insert_full.new.self.entries (with_value_at c.insert_full.new.self c.in_ok-i.i (c.in-Some.n + 1)).entries (c.args.a, c.args.b) (c.in-Some.n + 1)
    (updates-with_value_at c.insert_full.new.self c.in_ok-i.i (c.in-Some.n + 1) same_laws c.in-Some-get_index_mut.ensures.unique (c.args.a, c.args.b) 1 at).0
    ∙ ap (λ (t : SupportTable). map.insert t (c.args.a, c.args.b) (c.in-Some.n + 1)) one ∙ twice (map.from_entries es) (c.args.a, c.args.b) 1 (c.in-Some.n + 1) in
    subst IsPositive (sym now) (positive_with (map.from_entries es) c.args.a c.args.b c.in-Some.n c.self.invariant)

pub returns : goal.returns
returns c =
    let es = c.self.inside.table.entries in
    let one = written es c.insert_full.new.self.entries (c.args.a, c.args.b) 1 c.in_ok-i.ensures.updates.0 in
    let at = stands_put es c.insert_full.new.self.entries (c.args.a, c.args.b) 1 c.in_ok-i.i c.in_ok-i.ensures.entries c.in_ok-i.ensures.index in
    let now =
    written c.insert_full.new.self.entries (with_value_at c.insert_full.new.self c.in_ok-i.i (c.in-Some.n + 1)).entries (c.args.a, c.args.b) (c.in-Some.n + 1)
    (updates-with_value_at c.insert_full.new.self c.in_ok-i.i (c.in-Some.n + 1) same_laws c.in-Some-get_index_mut.ensures.unique (c.args.a, c.args.b) 1 at).0
    ∙ ap (λ (t : SupportTable). map.insert t (c.args.a, c.args.b) (c.in-Some.n + 1)) one ∙ twice (map.from_entries es) (c.args.a, c.args.b) 1 (c.in-Some.n + 1) in
    let there : Some c.in-Some.n ≡ map.get c.args.self.now.pairs (c.args.a, c.args.b) =
    sym c.in-Some.is ∙ found_in es c.args.self.now.pairs (c.args.a, c.args.b) _ (ap (λ (k : KeptPairs). k.pairs) c.self.view_is) c.in_ok-i.ensures.old in
    let total : c.in-Some.n ≡ support_at c.args.self.now.pairs c.args.a c.args.b = ap (λ o. unwrap_or o 0) there in
    rw (← total, ← (ap (λ (k : KeptPairs). k.pairs) c.self.view_is)) now
