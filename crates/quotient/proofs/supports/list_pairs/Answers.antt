use Rattle.std.proofs.Common.{◌≡◌, ℕ, ◌+◌, ◌<◌, List, ◌∷◌, [], ◌++◌, Some, false, cond, take, length, unwrap_or, sym, ap, ◌∙◌, subst, arith, slice_get}
use Rattle.std.specs.Prelude.{slice_set, nat_eq}
use Rattle.std.proofs.lemmas.Bool.Decides.{nat_tests}
use Rattle.std.specs.List.{IsDistinct}
use Rattle.std.specs.Map.{keys_of, lookup}
use Rattle.std.specs.FinMap as map
use Rattle.std.proofs.lemmas.List.{length-set}
use Rattle.graph_spec.specs.Graphs.{edge_cmp}
use Rattle.bisim_spec.specs.IndexGraphs.{SupportTable, support_at}
use Rattle.quotient.specs.Quotients.{with_support}
use Rattle.quotient.specs.QuotientNeighbours.{AreNeighbourLists, IsPositive, list_at}
use Rattle.quotient.proofs.Looked.{same, found, none_before, entries_more, some_entry}
use Rattle.quotient.proofs.Taken.{neighbour_lists_added}
use Rattle.quotient.proofs.supports.list_pairs.Goals as goal

-- a pair with support is put in
put_support : (t : SupportTable) (q : ℕ × ℕ) (n : ℕ) → 0 < n → with_support t q n ≡ map.insert t q n
put_support t q n h =
    let some : nat_eq n 0 ≡ false = grind (arith, nat_tests, h) in
    ap (λ b. cond b (map.remove t q) (map.insert t q n)) some

-- the pair at a place has support
supported : (es : List ((ℕ × ℕ) × ℕ)) (q : ℕ × ℕ) (n : ℕ) → IsPositive (map.from_entries {R = edge_cmp} es) → lookup (same q) es ≡ Some n
    → (0 < n) × (0 < support_at (map.from_entries {R = edge_cmp} es) q.0 q.1)
supported es q n h at =
    let some = some_entry (map.from_entries {R = edge_cmp} es) q n h (found es q ∙ at) in
    let is : support_at (map.from_entries {R = edge_cmp} es) q.0 q.1 ≡ n = ap (λ o. unwrap_or o 0) (found es q ∙ at) in
    (some, omega (arith, some, is))

-- one more pair is listed
next_lists : (es : List ((ℕ × ℕ) × ℕ)) (i a b n : ℕ) (cs ps cs2 ps2 : List (List ℕ)) → IsDistinct same (keys_of es) → slice_get es i ≡ Some ((a, b), n) → 0 < n
    → a < length cs → b < length ps → cs2 ≡ slice_set cs a (list_at cs a ++ b ∷ []) → ps2 ≡ slice_set ps b (list_at ps b ++ a ∷ [])
    → AreNeighbourLists (map.from_entries {R = edge_cmp} (take i es)) cs ps → AreNeighbourLists (map.from_entries {R = edge_cmp} (take (i + 1) es)) cs2 ps2
next_lists es i a b n cs ps cs2 ps2 d at some in_cs in_ps ec ep h =
    let before : SupportTable = map.from_entries {R = edge_cmp} (take i es) in
    let none : support_at before a b ≡ 0 = ap (λ o. unwrap_or o 0) (found (take i es) (a, b) ∙ none_before es i (a, b) n d at) in
    subst (λ (t : SupportTable). AreNeighbourLists t cs2 ps2) (put_support before (a, b) n some ∙ sym (entries_more es i (a, b) n d at))
    (neighbour_lists_added before cs ps cs2 ps2 a b n none some in_cs in_ps ec ep h)

pub count-requires : goal.count-requires
count-requires c =
    let pair = c.in-Some.pair.now in
    let below = (c.requires.from pair.0 pair.1 (supported c.args.table.now.entries pair _ c.requires.positive c.in-Some.ensures.value).1).0 in
    omega (arith, below, c.loop-i.invariant.children)

pub count-requires-in-loop-i : goal.count-requires-in-loop-i
count-requires-in-loop-i c =
    let pair = c.in-Some.pair.now in
    let below = (c.requires.onto pair.0 pair.1 (supported c.args.table.now.entries pair _ c.requires.positive c.in-Some.ensures.value).1).1 in
    omega (arith, below, c.loop-i.invariant.parents)

pub push-requires : goal.push-requires
push-requires c =
    let pair = c.in-Some.pair.now in
    let below = (c.requires.from pair.0 pair.1 (supported c.args.table.now.entries pair _ c.requires.positive c.in-Some.ensures.value).1).0 in
    omega (arith, below, c.loop-i.invariant.children)

pub push-requires-in-loop-i : goal.push-requires-in-loop-i
push-requires-in-loop-i c =
    let pair = c.in-Some.pair.now in
    let below = (c.requires.onto pair.0 pair.1 (supported c.args.table.now.entries pair _ c.requires.positive c.in-Some.ensures.value).1).1 in
    omega (arith, below, c.loop-i.invariant.parents)

pub loop-i-preserved : goal.loop-i-preserved
loop-i-preserved c =
    let l = c.loop-i in
    let es = c.args.table.now.entries in
    let pair = c.in-Some.pair.now in
    let some = supported es pair _ c.requires.positive c.in-Some.ensures.value in
    let from = (c.requires.from pair.0 pair.1 some.1).0 in
    let onto = (c.requires.onto pair.0 pair.1 some.1).1 in
    record {
      neighbour_lists = next_lists es l.i pair.0 pair.1 c.in-Some.field-0-1.now l.children.lists l.parents.lists c.push.new.self.lists c.push-in-loop-i.new.self.lists c.len-i-end.ensures.unique
          (sym c.in-Some.ensures.entry) some.0 (omega (arith, from, l.invariant.children)) (omega (arith, onto, l.invariant.parents)) c.in_ok-push.ensures c.in_ok-push-2.ensures l.invariant.neighbour_lists;
      children = ap length c.in_ok-push.ensures ∙ length-set l.children.lists pair.0 _ ∙ l.invariant.children;
      parents = ap length c.in_ok-push-2.ensures ∙ length-set l.parents.lists pair.1 _ ∙ l.invariant.parents;
    }
