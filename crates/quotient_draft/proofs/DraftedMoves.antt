-- What moves and supports that are drafted show.
use Rattle.std.proofs.Common.{◌≡◌, ℕ, List, [], ◌∷◌, Option, Some, None, refl, sym, ◌∙◌, ap, arith, inl, inr, true, false, Bool, ◌⊎◌, cond, ◌&&◌, unwrap_or, true≢false}
use Rattle.std.specs.Prelude.{nat_eq}
use Rattle.std.specs.FinMap as map
use Rattle.std.specs.List.{IsDistinct, AllByRecursion}
use Rattle.std.specs.Map.{lookup, keys_of}
use Rattle.std.specs.Ordering.{eq_by_cmp}
use Rattle.std.proofs.lemmas.Bool.Decides.{eqb_tells}
use Rattle.std.proofs.lemmas.Map.Keys.{IsDistinct-head, IsDistinct-tail}
use Rattle.graph_spec.specs.Graphs.{edge_cmp}
use Rattle.graph_spec.proofs.EdgeOrder.{edge_cmp_total, eq_pair}
use Rattle.graph_spec.specs.Members.{at}
use Rattle.bisim_spec.specs.IndexGraphs.{SupportTable, support_at}
use Rattle.quotient_draft.specs.Drafts.{with_moves, with_supports, is_pair}
use Rattle.quotient.specs.Quotients.{with_put, with_support}
use Rattle.quotient_draft.proofs.PutLists.{at_with_put}

pub test_is : (b : Bool) → (b ≡ true) ⊎ (b ≡ false)
test_is true = inl refl
test_is false = inr refl

pub absent_key : {K X : Type 0} (same : K → K → Bool) (k : K) (es : List (K × X)) → AllByRecursion (λ q. same k q ≡ false) (keys_of es) → lookup (same k) es ≡ None
absent_key same k [] h = refl
absent_key same k (e ∷ es) h = rw h.0 (absent_key same k es h.1)

-- moves

pub number_is : (m n : ℕ) → nat_eq m n ≡ true → m ≡ n
number_is m n h = elim (eqb_tells m n) [ inl s ↦ s.1 | inr d ↦ absurd (true≢false (sym h ∙ d.0)) ]

pub moves_absent : (block : List (Option ℕ)) (es : List (ℕ × Option ℕ)) (n : ℕ) → lookup (nat_eq n) es ≡ None → at (with_moves block es) n ≡ at block n
moves_absent block [] n none = refl
moves_absent block (e ∷ es) n none = elim (test_is (nat_eq n e.0)) [
  | inl s ↦ absurd (let found : lookup (nat_eq n) (e ∷ es) ≡ Some e.1 = rw s refl in let clash : Some e.1 ≡ None = sym found ∙ none in cc)
  | inr d ↦ (
      let rest : lookup (nat_eq n) (e ∷ es) ≡ lookup (nat_eq n) es = rw d refl in
      moves_absent (with_put block e.0 e.1) es n (sym rest ∙ none) ∙ at_with_put block e.0 e.1 n ∙ rw d refl)
]

-- a node's block is that of its move, and without one that which it has
pub at_moves : (block : List (Option ℕ)) (es : List (ℕ × Option ℕ)) (n : ℕ) → IsDistinct nat_eq (keys_of es) → at (with_moves block es) n ≡ unwrap_or (lookup (nat_eq n) es) (at block n)
at_moves block [] n d = refl
at_moves block (e ∷ es) n d = elim (test_is (nat_eq n e.0)) [
  | inl s ↦ (
      let none : lookup (nat_eq n) es ≡ None =
      ap (λ m. lookup (nat_eq m) es) (number_is n e.0 s) ∙ absent_key nat_eq e.0 es (IsDistinct-head nat_eq e.0 (keys_of es) d) in
      moves_absent (with_put block e.0 e.1) es n none ∙ at_with_put block e.0 e.1 n ∙ rw s refl)
  | inr f ↦ (
      let first : at (with_put block e.0 e.1) n ≡ at block n = at_with_put block e.0 e.1 n ∙ rw f refl in
      at_moves (with_put block e.0 e.1) es n (IsDistinct-tail nat_eq e.0 (keys_of es) d) ∙ ap (unwrap_or (lookup (nat_eq n) es)) first ∙ rw f refl)
]

pub or_else : {X : Type 0} (b : Bool) (v : X) (o : Option X) (d : X) → unwrap_or (cond b (Some v) o) d ≡ cond b v (unwrap_or o d)
or_else true v o d = refl
or_else false v o d = refl

-- one move more
pub moves_written : (block : List (Option ℕ)) (old new : List (ℕ × Option ℕ)) (n : ℕ) (v : Option ℕ) → IsDistinct nat_eq (keys_of old) → IsDistinct nat_eq (keys_of new)
    → ((q : ℕ) → lookup (nat_eq q) new ≡ cond (nat_eq q n) (Some v) (lookup (nat_eq q) old))
    → (m : ℕ) → at (with_moves block new) m ≡ cond (nat_eq m n) v (at (with_moves block old) m)
moves_written block old new n v d e w m =
    at_moves block new m e ∙ ap (λ o. unwrap_or o (at block m)) (w m) ∙ or_else (nat_eq m n) v (lookup (nat_eq m) old) (at block m)
    ∙ ap (cond (nat_eq m n) v) (sym (at_moves block old m d))

-- supports

tied : (p q : ℕ × ℕ) → eq_by_cmp edge_cmp p q ≡ is_pair p q
tied p q = eq_pair p.0 p.1 q.0 q.1

pub pair_is : (p q : ℕ × ℕ) → is_pair p q ≡ true → p ≡ q
pair_is p q h = elim (eqb_tells p.0 q.0) [
  | inl s ↦ elim (eqb_tells p.1 q.1) [
    | inl t ↦ (λ i. (s.1 i, t.1 i))
    | inr f ↦ absurd (let a = s.0 in let b = f.0 in cc)
  ]
  | inr f ↦ absurd (let a = f.0 in cc)
]

pub pair_same : (p : ℕ × ℕ) → is_pair p p ≡ true
pair_same p = grind arith

and_turned : (a b c d : Bool) → a ≡ c → b ≡ d → (a && b) ≡ (c && d)
and_turned a b c d e f = λ i. e i && f i

pub number_turned : (m n : ℕ) → nat_eq m n ≡ nat_eq n m
number_turned m n = grind arith

pub pair_turned : (p q : ℕ × ℕ) → is_pair p q ≡ is_pair q p
pair_turned p q = and_turned (nat_eq p.0 q.0) (nat_eq p.1 q.1) (nat_eq q.0 p.0) (nat_eq q.1 p.1) (number_turned p.0 q.0) (number_turned p.1 q.1)

gone : (b : Bool) (n : ℕ) (o : Option ℕ) → n ≡ 0 → unwrap_or (cond b None o) 0 ≡ cond b n (unwrap_or o 0)
gone true n o e = sym e
gone false n o e = refl

-- each pair's support, once that of one is written
pub support_written : (t : SupportTable) (p : ℕ × ℕ) (n x y : ℕ) → support_at (with_support t p n) x y ≡ cond (is_pair (x, y) p) n (support_at t x y)
support_written t p n x y = elim (eqb_tells n 0) [
  | inl z ↦ ap (λ (c : Bool). support_at (cond c (map.remove t p) (map.insert t p n)) x y) z.0
      ∙ ap (λ o. unwrap_or o 0) (map.get-remove edge_cmp_total t p (x, y) ∙ ap (λ b. cond b None (map.get t (x, y))) (tied (x, y) p))
      ∙ gone (is_pair (x, y) p) n (map.get t (x, y)) z.1
  | inr s ↦ ap (λ (c : Bool). support_at (cond c (map.remove t p) (map.insert t p n)) x y) s.0
      ∙ ap (λ o. unwrap_or o 0) (map.get-insert edge_cmp_total t p n (x, y) ∙ ap (λ b. cond b (Some n) (map.get t (x, y))) (tied (x, y) p))
      ∙ or_else (is_pair (x, y) p) n (map.get t (x, y)) 0
]

pub supports_absent : (t : SupportTable) (es : List ((ℕ × ℕ) × ℕ)) (x y : ℕ) → lookup (is_pair (x, y)) es ≡ None → support_at (with_supports t es) x y ≡ support_at t x y
supports_absent t [] x y none = refl
supports_absent t (e ∷ es) x y none = elim (test_is (is_pair (x, y) e.0)) [
  | inl s ↦ absurd (let found : lookup (is_pair (x, y)) (e ∷ es) ≡ Some e.1 = rw s refl in let clash : Some e.1 ≡ None = sym found ∙ none in cc)
  | inr d ↦ (
      let rest : lookup (is_pair (x, y)) (e ∷ es) ≡ lookup (is_pair (x, y)) es = rw d refl in
      supports_absent (with_support t e.0 e.1) es x y (sym rest ∙ none) ∙ support_written t e.0 e.1 x y ∙ ap (λ c. cond c e.1 (support_at t x y)) d)
]

-- a pair's support is that which is drafted, and without one that which it has
pub at_supports : (t : SupportTable) (es : List ((ℕ × ℕ) × ℕ)) (x y : ℕ) → IsDistinct is_pair (keys_of es) → support_at (with_supports t es) x y ≡ unwrap_or (lookup (is_pair (x, y)) es) (support_at t x y)
at_supports t [] x y d = refl
at_supports t (e ∷ es) x y d = elim (test_is (is_pair (x, y) e.0)) [
  | inl s ↦ (
      let none : lookup (is_pair (x, y)) es ≡ None =
      ap (λ (q : ℕ × ℕ). lookup (is_pair q) es) (pair_is (x, y) e.0 s) ∙ absent_key is_pair e.0 es (IsDistinct-head is_pair e.0 (keys_of es) d) in
      let found : lookup (is_pair (x, y)) (e ∷ es) ≡ Some e.1 = rw s refl in
      supports_absent (with_support t e.0 e.1) es x y none ∙ support_written t e.0 e.1 x y ∙ ap (λ c. cond c e.1 (support_at t x y)) s
      ∙ sym (ap (λ o. unwrap_or o (support_at t x y)) found))
  | inr f ↦ (
      let first : support_at (with_support t e.0 e.1) x y ≡ support_at t x y = support_written t e.0 e.1 x y ∙ ap (λ c. cond c e.1 (support_at t x y)) f in
      let rest : lookup (is_pair (x, y)) (e ∷ es) ≡ lookup (is_pair (x, y)) es = rw f refl in
      at_supports (with_support t e.0 e.1) es x y (IsDistinct-tail is_pair e.0 (keys_of es) d) ∙ ap (unwrap_or (lookup (is_pair (x, y)) es)) first
      ∙ sym (ap (λ o. unwrap_or o (support_at t x y)) rest))
]

-- one support more
pub supports_written : (t : SupportTable) (old new : List ((ℕ × ℕ) × ℕ)) (p : ℕ × ℕ) (n : ℕ) → IsDistinct is_pair (keys_of old) → IsDistinct is_pair (keys_of new)
    → ((q : ℕ × ℕ) → lookup (is_pair q) new ≡ cond (is_pair q p) (Some n) (lookup (is_pair q) old))
    → (x y : ℕ) → support_at (with_supports t new) x y ≡ cond (is_pair (x, y) p) n (support_at (with_supports t old) x y)
supports_written t old new p n d e w x y =
    at_supports t new x y e ∙ ap (λ o. unwrap_or o (support_at t x y)) (w (x, y)) ∙ or_else (is_pair (x, y) p) n (lookup (is_pair (x, y)) old) (support_at t x y)
    ∙ ap (cond (is_pair (x, y) p) n) (sym (at_supports t old x y d))
