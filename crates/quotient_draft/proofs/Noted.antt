-- The other ends of pairs.
use Rattle.std.proofs.Common.{◌≡◌, ℕ, ◌+◌, ◌-◌, take, List, [], ◌∷◌, ◌++◌, length, Some, None, refl, sym, ◌∙◌, ap, arith, inl, inr, true, false, Bool, cond, ◌&&◌, ◌||◌, filter_map, count_by}
use Rattle.std.specs.Prelude.{nat_eq}
use Rattle.std.specs.List.{cons_option}
use Rattle.std.specs.Map.{lookup, keys_of}
use Rattle.std.proofs.lemmas.List.{length-append}
use Rattle.std.proofs.lemmas.List.Elements.{filter_map-append}
use Rattle.std.proofs.Math.Seq.{take-append_seam}
use Rattle.graph_spec.specs.Members.{has}
use Rattle.quotient.specs.QuotientNeighbours.{one_if}
use Rattle.quotient_draft.specs.Drafts.{is_pair}
use Rattle.quotient_draft.specs.PairEnds.{ends_from, ends_onto}
use Rattle.quotient_draft.proofs.PairCounts.{counts_cons}
use Rattle.quotient_draft.proofs.DraftedMoves.{test_is}

none_first : (a b : Bool) → (a || b) ≡ false → a ≡ false
none_first true b h = h
none_first false b h = refl

none_second : (a b : Bool) → (a || b) ≡ false → b ≡ false
none_second true b h = absurd (let wrong : true ≡ false = h in cc)
none_second false b h = h

and_none : (a b : Bool) → b ≡ false → (a && b) ≡ false
and_none true b h = h
and_none false b h = refl

-- a pair of which the other end isn't listed isn't drafted
pub unlisted_onto : (es : List ((ℕ × ℕ) × ℕ)) (a b : ℕ) → has (ends_onto (keys_of es) b) a ≡ false → lookup (is_pair (a, b)) es ≡ None
unlisted_onto [] a b h = refl
unlisted_onto (e ∷ es) a b h = elim (test_is (nat_eq b e.0.1)) [
  | inl s ↦ (
      let shape : ends_onto (keys_of (e ∷ es)) b ≡ e.0.0 ∷ ends_onto (keys_of es) b = ap (λ c. cons_option (cond c (Some e.0.0) None) (ends_onto (keys_of es) b)) s in
      let both : (nat_eq a e.0.0 || has (ends_onto (keys_of es) b) a) ≡ false = sym (ap (λ xs. has xs a) shape) ∙ h in
      let miss : is_pair (a, b) e.0 ≡ false = ap (λ c. c && nat_eq b e.0.1) (none_first (nat_eq a e.0.0) (has (ends_onto (keys_of es) b) a) both) in
      rw miss (unlisted_onto es a b (none_second (nat_eq a e.0.0) (has (ends_onto (keys_of es) b) a) both)))
  | inr d ↦ (
      let shape : ends_onto (keys_of (e ∷ es)) b ≡ ends_onto (keys_of es) b = ap (λ c. cons_option (cond c (Some e.0.0) None) (ends_onto (keys_of es) b)) d in
      let miss : is_pair (a, b) e.0 ≡ false = and_none (nat_eq a e.0.0) (nat_eq b e.0.1) d in
      rw miss (unlisted_onto es a b (sym (ap (λ xs. has xs a) shape) ∙ h)))
]

pub unlisted_from : (es : List ((ℕ × ℕ) × ℕ)) (a b : ℕ) → has (ends_from (keys_of es) a) b ≡ false → lookup (is_pair (a, b)) es ≡ None
unlisted_from [] a b h = refl
unlisted_from (e ∷ es) a b h = elim (test_is (nat_eq a e.0.0)) [
  | inl s ↦ (
      let shape : ends_from (keys_of (e ∷ es)) a ≡ e.0.1 ∷ ends_from (keys_of es) a = ap (λ c. cons_option (cond c (Some e.0.1) None) (ends_from (keys_of es) a)) s in
      let both : (nat_eq b e.0.1 || has (ends_from (keys_of es) a) b) ≡ false = sym (ap (λ xs. has xs b) shape) ∙ h in
      let miss : is_pair (a, b) e.0 ≡ false = and_none (nat_eq a e.0.0) (nat_eq b e.0.1) (none_first (nat_eq b e.0.1) (has (ends_from (keys_of es) a) b) both) in
      rw miss (unlisted_from es a b (none_second (nat_eq b e.0.1) (has (ends_from (keys_of es) a) b) both)))
  | inr d ↦ (
      let shape : ends_from (keys_of (e ∷ es)) a ≡ ends_from (keys_of es) a = ap (λ c. cons_option (cond c (Some e.0.1) None) (ends_from (keys_of es) a)) d in
      let miss : is_pair (a, b) e.0 ≡ false = ap (λ c. c && nat_eq b e.0.1) d in
      rw miss (unlisted_from es a b (sym (ap (λ xs. has xs b) shape) ∙ h)))
]

one_listed : (c : Bool) (y : ℕ) (xs : List ℕ) → length (cons_option (cond c (Some y) None) xs) ≡ one_if c + length xs
one_listed true y xs = omega arith
one_listed false y xs = omega arith

-- as many ends are listed as there are pairs
pub ends_count : (f g : ℕ × ℕ → ℕ) (ps : List (ℕ × ℕ)) (x : ℕ) → length (filter_map (λ p. cond (nat_eq x (f p)) (Some (g p)) None) ps) ≡ count_by (λ q. nat_eq x (f q)) ps
ends_count f g [] x = refl
ends_count f g (q ∷ ps) x =
    let here = one_listed (nat_eq x (f q)) (g q) (filter_map (λ p. cond (nat_eq x (f p)) (Some (g p)) None) ps) in
    let rest = ends_count f g ps x in
    let all = counts_cons f q ps x in
    omega (arith, here, rest, all)

single : (c : Bool) (y : ℕ) → cons_option (cond c (Some y) None) [] ≡ cond c (y ∷ []) []
single true y = refl
single false y = refl

-- one pair more
pub ends_more : (f g : ℕ × ℕ → ℕ) (ps : List (ℕ × ℕ)) (q : ℕ × ℕ) (x : ℕ)
    → filter_map (λ p. cond (nat_eq x (f p)) (Some (g p)) None) (ps ++ q ∷ []) ≡ filter_map (λ p. cond (nat_eq x (f p)) (Some (g p)) None) ps ++ cond (nat_eq x (f q)) (g q ∷ []) []
ends_more f g ps q x =
    filter_map-append (λ (p : ℕ × ℕ). cond (nat_eq x (f p)) (Some (g p)) None) ps (q ∷ [])
    ∙ ap (λ ys. filter_map (λ (p : ℕ × ℕ). cond (nat_eq x (f p)) (Some (g p)) None) ps ++ ys) (single (nat_eq x (f q)) (g q))

-- a list without the end that was noted last
pub taken_back : (end : ℕ) (ys xs : List ℕ) → xs ≡ ys ++ end ∷ [] → take (length xs - 1) xs ≡ ys
taken_back end ys xs e =
    let len : length xs ≡ length ys + 1 = ap length e ∙ length-append ys (end ∷ []) in
    ap (λ n. take n xs) (let one : length xs - 1 ≡ length ys = omega (arith, len) in one) ∙ ap (take (length ys)) e ∙ take-append_seam ys (end ∷ [])
