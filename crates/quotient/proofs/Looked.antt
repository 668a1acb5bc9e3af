-- A table of supports as its entries, which a hash finds.
use Rattle.std.proofs.Common.{◌≡◌, ◌≢◌, ℕ, zero, suc, ◌+◌, ◌⊎◌, List, [], ◌∷◌, ◌++◌, ◌<◌, take, get_or, Option, Some, None, refl, sym, ◌∙◌, ap, arith, inl, inr, true, false, true≢false, not, Bool, cond, ◌&&◌, unwrap_or, length, slice_get}
use Rattle.std.specs.Prelude.{nat_eq, nat_lt, is_some}
use Rattle.std.specs.List.{IsDistinct, AllByRecursion, position_or_len}
use Rattle.std.proofs.lemmas.Map.Keys.{IsDistinct-head, IsDistinct-tail}
use Rattle.std.proofs.lemmas.List.{take_more}
use Rattle.std.proofs.lemmas.Option.{slice_get_within, get_or_from_slice_get}
use Rattle.std.specs.Ordering.{nat_cmp, eq_by_cmp, is_eq}
use Rattle.std.specs.Map.{lookup, keys_of}
use Rattle.std.specs.FinMap as map
use Rattle.std.specs.Cmp.{tied_then, unsigned_tied, eq_by_cmp_equiv, IsEquivalence}
use Rattle.std.proofs.lemmas.Bool.Decides.{eqb_tells, nat_tests}
use Rattle.indexmap.specs.IndexMap.{insert_entry}
use Rattle.graph_spec.specs.Graphs.{edge_cmp}
use Rattle.graph_spec.proofs.EdgeOrder.{edge_cmp_total}
use Rattle.bisim_spec.specs.IndexGraphs.{SupportTable, support_at}
use Rattle.quotient.specs.Quotients.{pair_count}
use Rattle.quotient.specs.QuotientNeighbours.{with_one_more, one_if, IsPositive}

abbrev pub same : ℕ × ℕ → ℕ × ℕ → Bool
same x y = nat_eq x.0 y.0 && nat_eq x.1 y.1

pub tied : (x y : ℕ × ℕ) → eq_by_cmp edge_cmp x y ≡ same x y
tied x y = sym (tied_then (nat_cmp x.0 y.0) (nat_cmp x.1 y.1)) ∙ ap (λ b. b && is_eq (nat_cmp x.1 y.1)) (unsigned_tied x.0 y.0) ∙ ap (λ b. nat_eq x.0 y.0 && b) (unsigned_tied x.1 y.1)

pub same_is : (x y : ℕ × ℕ) → same x y ≡ true → x ≡ y
same_is x y h = elim (eqb_tells x.0 y.0) [
  | inl s ↦ elim (eqb_tells x.1 y.1) [
    | inl t ↦ (λ i. (s.1 i, t.1 i))
    | inr f ↦ absurd (let a = s.0 in let b = f.0 in cc)
  ]
  | inr f ↦ absurd (let a = f.0 in cc)
]

pub same_refl : (x : ℕ × ℕ) → same x x ≡ true
same_refl x = grind arith

pub test_is : (b : Bool) → (b ≡ true) ⊎ (b ≡ false)
test_is true = inl refl
test_is false = inr refl

-- pairs that a test for others doesn't tell apart are one
pub not_other : (x y : ℕ × ℕ) → false ≡ not (same x y) → x ≡ y
not_other x y h = elim (test_is (same x y)) [ inl s ↦ same_is x y s | inr f ↦ absurd (true≢false (sym (h ∙ ap not f))) ]

pub edge_cmp-IsAntisymmetric : map.IsAntisymmetric edge_cmp
edge_cmp-IsAntisymmetric x y e = same_is x y (sym (tied x y) ∙ ap is_eq e)

same_sym : (x y : ℕ × ℕ) → same x y ≡ same y x
same_sym x y = sym (tied x y) ∙ (eq_by_cmp_equiv edge_cmp_total).symm x y ∙ tied y x

pub same_laws : IsEquivalence same
same_laws = record { refl = same_refl; symm = same_sym; congr = λ x y z e. ap (λ p. same p z) (same_is x y e) }

find_lookup : (es : List ((ℕ × ℕ) × ℕ)) (q : ℕ × ℕ) → map.find edge_cmp q es ≡ lookup (same q) es
find_lookup [] q = refl
find_lookup (e ∷ es) q = ap (λ b. cond b (Some e.1) (map.find edge_cmp q es)) (tied q e.0) ∙ ap (λ o. cond (same q e.0) (Some e.1) o) (find_lookup es q)

pub found : (es : List ((ℕ × ℕ) × ℕ)) (q : ℕ × ℕ) → map.get {R = edge_cmp} (map.from_entries es) q ≡ lookup (same q) es
found es q = map.get-from_entries edge_cmp_total es q ∙ find_lookup es q

pub found_in : (es : List ((ℕ × ℕ) × ℕ)) (t : SupportTable) (q : ℕ × ℕ) (o : Option ℕ) → map.from_entries es ≡ t → o ≡ lookup (same q) es → o ≡ map.get t q
found_in es t q o e h = h ∙ sym (found es q) ∙ ap (λ (m : SupportTable). map.get m q) e

pub got : (t : SupportTable) (k : ℕ × ℕ) (v : ℕ) (q : ℕ × ℕ) → map.get (map.insert t k v) q ≡ cond (same q k) (Some v) (map.get t q)
got t k v q = map.get-insert edge_cmp_total t k v q ∙ ap (λ b. cond b (Some v) (map.get t q)) (tied q k)

-- what an insert makes of the table
pub written : (old new : List ((ℕ × ℕ) × ℕ)) (k : ℕ × ℕ) (v : ℕ) → ((q : ℕ × ℕ) → lookup (same q) new ≡ cond (same k q) (Some v) (lookup (same q) old)) → map.from_entries {R = edge_cmp} new ≡ map.insert (map.from_entries old) k v
written old new k v u = map.same_map edge_cmp_total edge_cmp-IsAntisymmetric _ _ (λ q.
    found new q ∙ u q ∙ ap (λ b. cond b (Some v) (lookup (same q) old)) (same_sym k q)
    ∙ ap (λ o. cond (same q k) (Some v) o) (sym (found old q)) ∙ sym (got (map.from_entries old) k v q))

absent_key : (k : ℕ × ℕ) (es : List ((ℕ × ℕ) × ℕ)) → AllByRecursion (λ q. same k q ≡ false) (keys_of es) → is_some (lookup (same k) es) ≡ false
absent_key k [] h = refl
absent_key k (e ∷ es) h = rw h.0 (absent_key k es h.1)

-- the entries of a table whose keys differ are as many as those of its value
pub entries_len : (es : List ((ℕ × ℕ) × ℕ)) → IsDistinct same (keys_of es) → map.len {R = edge_cmp} (map.from_entries es) ≡ length es
entries_len [] d = map.len-empty edge_cmp ℕ
entries_len (e ∷ es) d =
    let absent : is_some (map.get {R = edge_cmp} (map.from_entries es) e.0) ≡ false = ap is_some (found es e.0) ∙ absent_key e.0 es (IsDistinct-head same e.0 (keys_of es) d) in
    let rest = entries_len es (IsDistinct-tail same e.0 (keys_of es) d) in
    map.len-insert edge_cmp_total (map.from_entries es) e.0 e.1 ∙ rw absent (omega (arith, rest))

-- a pair that is put in stands at the index that it had, or behind the others
put_at : (es : List ((ℕ × ℕ) × ℕ)) (q : ℕ × ℕ) (v : ℕ) → slice_get (insert_entry same es q v) (position_or_len (same q) (keys_of es)) ≡ Some (q, v)
put_at [] q v = refl
put_at (e ∷ es) q v = elim (test_is (same q e.0)) [
  | inl s ↦ (
      let here : position_or_len (same q) (keys_of (e ∷ es)) ≡ 0 = rw s refl in
      let now : insert_entry same (e ∷ es) q v ≡ (e.0, v) ∷ es = rw s refl in
      let own : (e.0, v) ≡ (q, v) = λ j. (sym (same_is q e.0 s) j, v) in
      ap (slice_get (insert_entry same (e ∷ es) q v)) here ∙ ap (λ (xs : List ((ℕ × ℕ) × ℕ)). slice_get xs 0) now ∙ ap (λ (x : (ℕ × ℕ) × ℕ). Some x) own)
  | inr f ↦ (
      let there : position_or_len (same q) (keys_of (e ∷ es)) ≡ suc (position_or_len (same q) (keys_of es)) = rw f (omega arith) in
      let now : insert_entry same (e ∷ es) q v ≡ e ∷ insert_entry same es q v = rw f refl in
      ap (slice_get (insert_entry same (e ∷ es) q v)) there ∙ ap (λ (xs : List ((ℕ × ℕ) × ℕ)). slice_get xs (suc (position_or_len (same q) (keys_of es)))) now ∙ put_at es q v)
]

pub stands_put : (old new : List ((ℕ × ℕ) × ℕ)) (q : ℕ × ℕ) (v i : ℕ) → new ≡ insert_entry same old q v → i ≡ position_or_len (same q) (keys_of old) → slice_get new i ≡ Some (q, v)
stands_put old new q v i put at = ap (λ (xs : List ((ℕ × ℕ) × ℕ)). slice_get xs i) put ∙ ap (slice_get (insert_entry same old q v)) at ∙ put_at old q v

-- of two writes of one pair the last counts
pub twice : (t : SupportTable) (k : ℕ × ℕ) (v w : ℕ) → map.insert (map.insert t k v) k w ≡ map.insert t k w
twice t k v w = map.same_map edge_cmp_total edge_cmp-IsAntisymmetric _ _ (λ q.
    got (map.insert t k v) k w q ∙ ap (λ o. cond (same q k) (Some w) o) (got t k v q) ∙ last (same q k) (map.get t q) ∙ sym (got t k w q))
  where
    last : (b : Bool) (o : Option ℕ) → cond b (Some w) (cond b (Some v) o) ≡ cond b (Some w) o
    last true o = refl
    last false o = refl

-- the support of each pair, once an edge from a to b is counted
pub support_raised : (t : SupportTable) (a b x y : ℕ) → support_at (with_one_more t a b) x y ≡ support_at t x y + one_if (same (x, y) (a, b))
support_raised t a b x y =
    ap (λ o. unwrap_or o 0) (got t (a, b) (support_at t a b + 1) (x, y)) ∙ elim (test_is (same (x, y) (a, b))) [
      | inl s ↦ (
          let p = same_is (x, y) (a, b) s in
          let xa : x ≡ a = ap (λ (q : ℕ × ℕ). q.0) p in
          let yb : y ≡ b = ap (λ (q : ℕ × ℕ). q.1) p in
          rw (s, ← xa, ← yb) refl)
      | inr g ↦ rw g (omega arith)
    ]

positive_kept : (t : SupportTable) (p : ℕ × ℕ) (o : Option ℕ) → map.get t p ≡ o → o ≢ Some 0 → cond (nat_lt 0 (unwrap_or o 0)) o None ≡ o
positive_kept t p None e h = refl
positive_kept t p (Some zero) e h = absurd (h refl)
positive_kept t p (Some (suc n)) e h = let some : nat_lt 0 (suc n) ≡ true = grind (arith, nat_tests) in rw some refl

-- where each entry is above 0, the pairs with support are the entries
pub pairs_all : (t : SupportTable) → IsPositive t → pair_count t ≡ map.len t
pairs_all t positive =
    let test : ℕ × ℕ → Bool = λ p. nat_lt 0 (support_at t p.0 p.1) in
    ap map.len (map.same_map edge_cmp_total edge_cmp-IsAntisymmetric (map.retain_keys t test) t (λ q.
    map.get-retain_keys t test q (λ x e. ap test (sym (edge_cmp-IsAntisymmetric q x e)))
    ∙ positive_kept t q (map.get t q) refl (positive q)))

pub positive_none : (t : SupportTable) → t ≡ map.empty → IsPositive t
positive_none t e p h = let none : map.get t p ≡ None = ap (λ (m : SupportTable). map.get m p) e ∙ map.get-empty edge_cmp p in cc

pub positive_with : (t : SupportTable) (a b n : ℕ) → IsPositive t → IsPositive (map.insert t (a, b) (n + 1))
positive_with t a b n h p e = elim (test_is (same p (a, b))) [
  | inl s ↦ (let here : map.get (map.insert t (a, b) (n + 1)) p ≡ Some (n + 1) = got t (a, b) (n + 1) p ∙ rw s refl in
      let zero_is : n + 1 ≡ 0 = ap (λ o. unwrap_or o 0) (sym here ∙ e) in absurd (omega (arith, zero_is)))
  | inr d ↦ h p (sym (got t (a, b) (n + 1) p ∙ rw d refl) ∙ e)
]

-- an entry of a table whose keys differ is no entry before it
key_apart : (es : List ((ℕ × ℕ) × ℕ)) (j : ℕ) (q k : ℕ × ℕ) (v : ℕ) → AllByRecursion (λ p. same q p ≡ false) (keys_of es) → slice_get es j ≡ Some (k, v) → same q k ≡ false
key_apart [] j q k v h at = absurd cc
key_apart (e ∷ es) zero q k v h at = ap (same q) (key_of e (k, v) at) ∙ h.0
  where
    key_of : (x y : (ℕ × ℕ) × ℕ) → Some x ≡ Some y → y.0 ≡ x.0
    key_of x y h = cc
key_apart (e ∷ es) (suc j) q k v h at = key_apart es j q k v h.1 at

pub none_before : (es : List ((ℕ × ℕ) × ℕ)) (i : ℕ) (k : ℕ × ℕ) (v : ℕ) → IsDistinct same (keys_of es) → slice_get es i ≡ Some (k, v) → lookup (same k) (take i es) ≡ None
none_before es zero k v d at = refl
none_before [] (suc i) k v d at = refl
none_before (e ∷ es) (suc i) k v d at =
    let apart : same k e.0 ≡ false = same_sym k e.0 ∙ key_apart es i e.0 k v (IsDistinct-head same e.0 (keys_of es) d) at in
    rw apart (none_before es i k v (IsDistinct-tail same e.0 (keys_of es) d) at)

-- one entry more
pub entries_more : (es : List ((ℕ × ℕ) × ℕ)) (i : ℕ) (k : ℕ × ℕ) (v : ℕ) → IsDistinct same (keys_of es) → slice_get es i ≡ Some (k, v)
    → map.from_entries {R = edge_cmp} (take (i + 1) es) ≡ map.insert (map.from_entries (take i es)) k v
entries_more es i k v d at =
    let within = slice_get_within es i (k, v) at in
    let here : get_or es i (k, v) ≡ (k, v) = get_or_from_slice_get es i (k, v) (k, v) at in
    ap map.from_entries (take_more es i (k, v) within ∙ ap (λ (e : (ℕ × ℕ) × ℕ). take i es ++ e ∷ []) here)
    ∙ map.from_entries_push edge_cmp_total edge_cmp-IsAntisymmetric (take i es) k v (find_lookup (take i es) k ∙ none_before es i k v d at)

-- a pair in the table has edges
pub some_entry : (t : SupportTable) (k : ℕ × ℕ) (n : ℕ) → IsPositive t → map.get t k ≡ Some n → 0 < n
some_entry t k zero h e = absurd (h k e)
some_entry t k (suc n) h e = omega arith
