-- Lists of neighbours, when the support of a pair is written.
use Rattle.std.proofs.Common.{◌≡◌, ◌≢◌, ℕ, ◌<◌, List, [], ◌∷◌, ◌++◌, Option, Some, None, refl, sym, ◌∙◌, ap, subst, arith, inl, inr, true, false, Bool, cond, length, slice_set, unwrap_or}
use Rattle.std.specs.Prelude.{nat_eq, nat_lt, ◌||◌}
use Rattle.std.specs.FinMap as map
use Rattle.std.specs.Map.{lookup}
use Rattle.std.specs.List.Sorted.{IsPermutation}
use Rattle.std.proofs.lemmas.Bool.Decides.{eqb_tells, nat_tests}
use Rattle.std.proofs.lemmas.Option.{none-some}
use Rattle.std.proofs.lemmas.List.{get_or-set_same, get_or-set_other}
use Rattle.std.proofs.lemmas.List.Sorted.{list_any-IsPermutation}
use Rattle.std.proofs.lemmas.Map.Keys.{IsDistinct-IsPermutation, IsDistinct-head, IsDistinct-tail}
use Rattle.graph_spec.specs.Graphs.{edge_cmp}
use Rattle.graph_spec.specs.Members.{has, Lists}
use Rattle.graph_spec.proofs.EdgeOrder.{edge_cmp_total}
use Rattle.graph_spec.proofs.ListLemmas.{none-has}
use Rattle.bisim_spec.specs.IndexGraphs.{SupportTable, support_at}
use Rattle.quotient.specs.Quotients.{with_support}
use Rattle.quotient.specs.QuotientNeighbours.{AreNeighbourLists, IsPositive, list_at, is_supported}
use Rattle.quotient.proofs.Looked.{same, same_is, same_refl, test_is, tied, found, got, edge_cmp-IsAntisymmetric}
use Rattle.quotient.proofs.NeighbourListLaws.{lists_same, lists_pushed, apart_first, apart_second}

got_removed : (t : SupportTable) (k q : ℕ × ℕ) → map.get (map.remove t k) q ≡ cond (same q k) None (map.get t q)
got_removed t k q = map.get-remove edge_cmp_total t k q ∙ ap (λ b. cond b None (map.get t q)) (tied q k)

-- what an entry less makes of the table
pub removed : (old new : List ((ℕ × ℕ) × ℕ)) (k : ℕ × ℕ) → ((q : ℕ × ℕ) → lookup (same q) new ≡ cond (same k q) None (lookup (same q) old)) → map.from_entries {R = edge_cmp} new ≡ map.remove (map.from_entries old) k
removed old new k u = map.same_map edge_cmp_total edge_cmp-IsAntisymmetric _ _ (λ q.
    found new q ∙ u q ∙ ap (λ b. cond b None (lookup (same q) old)) (same_turned k q)
    ∙ ap (λ o. cond (same q k) None o) (sym (found old q))
    ∙ sym (got_removed (map.from_entries old) k q))
  where
    same_turned : (p q : ℕ × ℕ) → same p q ≡ same q p
    same_turned p q = grind arith

pub positive_removed : (t : SupportTable) (k : ℕ × ℕ) → IsPositive t → IsPositive (map.remove t k)
positive_removed t k h p e = by (same p k) refl
  where
    is : (b : Bool) → same p k ≡ b → cond b None (map.get t p) ≡ Some 0
    is b s = ap (λ c. cond c None (map.get t p)) (sym s) ∙ sym (got_removed t k p) ∙ e

    by : (b : Bool) → same p k ≡ b → ⊥
    by true s = none-some 0 (is true s)
    by false s = h p (is false s)

pub positive_inserted : (t : SupportTable) (k : ℕ × ℕ) (n : ℕ) → 0 < n → IsPositive t → IsPositive (map.insert t k n)
positive_inserted t k n some h p e = by (same p k) refl
  where
    is : (b : Bool) → same p k ≡ b → cond b (Some n) (map.get t p) ≡ Some 0
    is b s = ap (λ c. cond c (Some n) (map.get t p)) (sym s) ∙ sym (got t k n p) ∙ e

    by : (b : Bool) → same p k ≡ b → ⊥
    by true s = (let zero_is : n ≡ 0 = ap (λ o. unwrap_or o 0) (is true s) in absurd (omega (arith, zero_is, some)))
    by false s = h p (is false s)

or_else : (b : Bool) (v : ℕ) (o : Option ℕ) → unwrap_or (cond b (Some v) o) 0 ≡ cond b v (unwrap_or o 0)
or_else true v o = refl
or_else false v o = refl

gone : (b : Bool) (n : ℕ) (o : Option ℕ) → n ≡ 0 → unwrap_or (cond b None o) 0 ≡ cond b n (unwrap_or o 0)
gone true n o e = sym e
gone false n o e = refl

-- each pair's support, once that of one is written
pub support_written : (t : SupportTable) (p : ℕ × ℕ) (n x y : ℕ) → support_at (with_support t p n) x y ≡ cond (same (x, y) p) n (support_at t x y)
support_written t p n x y = elim (eqb_tells n 0) [
  | inl z ↦ ap (λ (c : Bool). support_at (cond c (map.remove t p) (map.insert t p n)) x y) z.0
      ∙ ap (λ o. unwrap_or o 0) (map.get-remove edge_cmp_total t p (x, y) ∙ ap (λ b. cond b None (map.get t (x, y))) (tied (x, y) p))
      ∙ gone (same (x, y) p) n (map.get t (x, y)) z.1
  | inr s ↦ ap (λ (c : Bool). support_at (cond c (map.remove t p) (map.insert t p n)) x y) s.0
      ∙ ap (λ o. unwrap_or o 0) (got t p n (x, y))
      ∙ or_else (same (x, y) p) n (map.get t (x, y))
]

others : (t : SupportTable) (a b n x y : ℕ) → same (x, y) (a, b) ≡ false → is_supported (with_support t (a, b) n) x y ≡ is_supported t x y
others t a b n x y d = ap (nat_lt 0) (support_written t (a, b) n x y ∙ ap (λ c. cond c n (support_at t x y)) d)

here : (t : SupportTable) (a b n : ℕ) → is_supported (with_support t (a, b) n) a b ≡ nat_lt 0 n
here t a b n = ap (nat_lt 0) (support_written t (a, b) n a b ∙ ap (λ c. cond c n (support_at t a b)) (same_refl (a, b)))

-- one number fewer in a list
lists_taken : (p q : ℕ → Bool) (xs ys : List ℕ) (b : ℕ) → Lists p xs → IsPermutation xs (b ∷ ys) → q b ≡ false → ((m : ℕ) → m ≢ b → q m ≡ p m) → Lists q ys
lists_taken p q xs ys b l taken out other =
    let distinct = IsDistinct-IsPermutation nat_eq flips xs (b ∷ ys) taken l.once in
    record {
      once = IsDistinct-tail nat_eq b ys distinct;
      members = λ m. elim (eqb_tells m b) [
        | inl s ↦ ap (has ys) s.1 ∙ none-has b ys (IsDistinct-head nat_eq b ys distinct) ∙ sym (ap q s.1 ∙ out)
        | inr d ↦ (
            let all : has xs m ≡ has (b ∷ ys) m = list_any-IsPermutation (nat_eq m) xs (b ∷ ys) taken in
            let skip : has (b ∷ ys) m ≡ has ys m = ap (λ t. t || has ys m) d.0 in
            sym skip ∙ sym all ∙ l.members m ∙ sym (other m d.1))
      ];
    }
  where
    flips : (x y : ℕ) → nat_eq x y ≡ nat_eq y x
    flips x y = grind arith

-- where a pair's support is written as it was, 0 or not, the lists stay
pub neighbour_lists_still : (t : SupportTable) (cs ps : List (List ℕ)) (a b n : ℕ) → nat_lt 0 n ≡ is_supported t a b → AreNeighbourLists t cs ps → AreNeighbourLists (with_support t (a, b) n) cs ps
neighbour_lists_still t cs ps a b n is neighbour_lists =
    let still : (x y : ℕ) → is_supported (with_support t (a, b) n) x y ≡ is_supported t x y = λ x y. elim (test_is (same (x, y) (a, b))) [
      | inl s ↦ (
          let pair = same_is (x, y) (a, b) s in
          ap (λ (q : ℕ × ℕ). is_supported (with_support t (a, b) n) q.0 q.1) pair ∙ here t a b n ∙ is ∙ sym (ap (λ (q : ℕ × ℕ). is_supported t q.0 q.1) pair))
      | inr d ↦ others t a b n x y d
    ] in
    record {
      children_are = λ x. lists_same (is_supported t x) (is_supported (with_support t (a, b) n) x) (list_at cs x) (still x) (neighbour_lists.children_are x);
      parents_are = λ y. lists_same (λ x. is_supported t x y) (λ x. is_supported (with_support t (a, b) n) x y) (list_at ps y) (λ x. still x y) (neighbour_lists.parents_are y);
    }

-- where other lists than those of the two blocks stay
neighbour_lists_written : (t : SupportTable) (cs ps cs2 ps2 : List (List ℕ)) (a b n : ℕ) → ((x : ℕ) → x ≢ a → list_at cs2 x ≡ list_at cs x) → ((y : ℕ) → y ≢ b → list_at ps2 y ≡ list_at ps y)
    → Lists (is_supported (with_support t (a, b) n) a) (list_at cs2 a) → Lists (λ x. is_supported (with_support t (a, b) n) x b) (list_at ps2 b)
    → AreNeighbourLists t cs ps → AreNeighbourLists (with_support t (a, b) n) cs2 ps2
neighbour_lists_written t cs ps cs2 ps2 a b n cs_stay ps_stay own_children own_parents neighbour_lists = record {
  children_are = λ x. elim (eqb_tells x a) [
    | inl s ↦ subst (λ z. Lists (is_supported (with_support t (a, b) n) z) (list_at cs2 z)) (sym s.1) own_children
    | inr d ↦ subst (Lists (is_supported (with_support t (a, b) n) x)) (sym (cs_stay x d.1))
        (lists_same (is_supported t x) (is_supported (with_support t (a, b) n) x) (list_at cs x) (λ m. others t a b n x m (apart_first a b x m d.1)) (neighbour_lists.children_are x))
  ];
  parents_are = λ y. elim (eqb_tells y b) [
    | inl s ↦ subst (λ z. Lists (λ x. is_supported (with_support t (a, b) n) x z) (list_at ps2 z)) (sym s.1) own_parents
    | inr d ↦ subst (Lists (λ x. is_supported (with_support t (a, b) n) x y)) (sym (ps_stay y d.1))
        (lists_same (λ x. is_supported t x y) (λ x. is_supported (with_support t (a, b) n) x y) (list_at ps y) (λ m. others t a b n m y (apart_second a b m y d.1)) (neighbour_lists.parents_are y))
  ];
}

other_list : (lists lists2 : List (List ℕ)) (n m : ℕ) (l : List ℕ) → lists2 ≡ slice_set lists n l → m ≢ n → list_at lists2 m ≡ list_at lists m
other_list lists lists2 n m l e d = ap (λ ls. list_at ls m) e ∙ get_or-set_other lists n m l [] d

own_list : (lists lists2 : List (List ℕ)) (n : ℕ) (l : List ℕ) → lists2 ≡ slice_set lists n l → n < length lists → list_at lists2 n ≡ l
own_list lists lists2 n l e h = ap (λ ls. list_at ls n) e ∙ get_or-set_same lists n l [] h

-- a pair gets support
pub neighbour_lists_added : (t : SupportTable) (cs ps cs2 ps2 : List (List ℕ)) (a b n : ℕ) → support_at t a b ≡ 0 → 0 < n → a < length cs → b < length ps
    → cs2 ≡ slice_set cs a (list_at cs a ++ b ∷ []) → ps2 ≡ slice_set ps b (list_at ps b ++ a ∷ []) → AreNeighbourLists t cs ps → AreNeighbourLists (with_support t (a, b) n) cs2 ps2
neighbour_lists_added t cs ps cs2 ps2 a b n none some in_cs in_ps ec ep neighbour_lists =
    let out : is_supported t a b ≡ false = ap (nat_lt 0) none in
    let yes : nat_lt 0 n ≡ true = grind (arith, nat_tests, some) in
    neighbour_lists_written t cs ps cs2 ps2 a b n (λ x. other_list cs cs2 a x (list_at cs a ++ b ∷ []) ec) (λ y. other_list ps ps2 b y (list_at ps b ++ a ∷ []) ep)
    (subst (Lists (is_supported (with_support t (a, b) n) a)) (sym (own_list cs cs2 a (list_at cs a ++ b ∷ []) ec in_cs))
    (lists_pushed (is_supported t a) (is_supported (with_support t (a, b) n) a) (list_at cs a) b (neighbour_lists.children_are a) out (here t a b n ∙ yes)
    (λ m d. others t a b n a m (apart_second a b a m d))))
    (subst (Lists (λ x. is_supported (with_support t (a, b) n) x b)) (sym (own_list ps ps2 b (list_at ps b ++ a ∷ []) ep in_ps))
    (lists_pushed (λ x. is_supported t x b) (λ x. is_supported (with_support t (a, b) n) x b) (list_at ps b) a (neighbour_lists.parents_are b) out (here t a b n ∙ yes)
    (λ m d. others t a b n m b (apart_first a b m b d)))) neighbour_lists

-- a pair loses its support
pub neighbour_lists_taken : (t : SupportTable) (cs ps cs2 ps2 : List (List ℕ)) (a b n : ℕ) → n ≡ 0
    → cs2 ≡ slice_set cs a (list_at cs2 a) → IsPermutation (list_at cs a) (b ∷ list_at cs2 a)
    → ps2 ≡ slice_set ps b (list_at ps2 b) → IsPermutation (list_at ps b) (a ∷ list_at ps2 b) → AreNeighbourLists t cs ps → AreNeighbourLists (with_support t (a, b) n) cs2 ps2
neighbour_lists_taken t cs ps cs2 ps2 a b n none ec tc ep tp neighbour_lists =
    let no : nat_lt 0 n ≡ false = grind (arith, nat_tests, none) in
    neighbour_lists_written t cs ps cs2 ps2 a b n (λ x. other_list cs cs2 a x (list_at cs2 a) ec) (λ y. other_list ps ps2 b y (list_at ps2 b) ep)
    (lists_taken (is_supported t a) (is_supported (with_support t (a, b) n) a) (list_at cs a) (list_at cs2 a) b (neighbour_lists.children_are a) tc (here t a b n ∙ no)
    (λ m d. others t a b n a m (apart_second a b a m d)))
    (lists_taken (λ x. is_supported t x b) (λ x. is_supported (with_support t (a, b) n) x b) (list_at ps b) (list_at ps2 b) a (neighbour_lists.parents_are b) tp (here t a b n ∙ no)
    (λ m d. others t a b n m b (apart_first a b m b d))) neighbour_lists

-- so both are neighbours
pub neighbour_lists_there : (t : SupportTable) (cs ps : List (List ℕ)) (a b : ℕ) → 0 < support_at t a b → AreNeighbourLists t cs ps → (has (list_at cs a) b ≡ true) × (has (list_at ps b) a ≡ true)
neighbour_lists_there t cs ps a b some neighbour_lists =
    let yes : is_supported t a b ≡ true = grind (arith, nat_tests, some) in
    ((neighbour_lists.children_are a).members b ∙ yes, (neighbour_lists.parents_are b).members a ∙ yes)
