-- Numbers past each block as shown, and small numbers of nodes.
use Rattle.std.proofs.Common.{◌≡◌, ℕ, ◌+◌, ◌<◌, ◌≤◌, ◌^◌, List, [], ◌∷◌, Option, Some, None, IsSome, is_some, length, refl, sym, ◌∙◌, ap, arith, inl, inr, Bool, true, false, cond, unwrap_or, count_by, true≢false, take}
use Rattle.std.specs.Prelude.{nat_eq, ◌||◌, get_or}
use Rattle.std.specs.Map.{lookup}
use Rattle.std.proofs.lemmas.Bool.{cases_lt}
use Rattle.std.proofs.lemmas.List.{get_or_past, take_more}
use Rattle.std.proofs.lemmas.List.Folds.{list_any-append}
use Rattle.graph_spec.specs.Members.{at, has}
use Rattle.quotient_draft.specs.Drafts.{with_added}
use Rattle.quotient_draft.specs.Basis.{AreLeastFree}
use Rattle.quotient_draft.specs.Scans.{from_after}
use Rattle.quotient_draft.proofs.Scanned.{from_few, past_same}

pub from_small : (labels : List (Option ℕ)) (es : List (ℕ × ℕ)) → AreLeastFree labels es → (0 < length es → count_by is_some (with_added labels es) ≤ 2 ^ 31) → from_after 0 es ≤ 2 ^ 31
from_small labels [] least few = omega arith
from_small labels (e ∷ es) least few =
    let most = from_few labels (e ∷ es) least in
    let small = few (omega arith) in
    omega (arith, most, small)

-- a block as shown is one of the base, or one that was added
pub below_both : (labels : List (Option ℕ)) (es : List (ℕ × ℕ)) (b : ℕ) → AreLeastFree labels es → IsSome (at (with_added labels es) b) → from_after 0 es ≤ b → b < length labels
below_both labels es b least h past = elim (cases_lt b (length labels)) [
  | inl less ↦ less
  | inr over ↦ absurd (
      let same = past_same 0 labels es (λ c less. absurd (omega (arith, less))) least b past in
      true≢false (sym h ∙ ap is_some (same ∙ get_or_past labels b None over)))
]

-- a node that has a block has a small number
pub node_small : (block : List (Option ℕ)) (moves : List (ℕ × Option ℕ)) (n : ℕ) (o : Option ℕ) → length block ≤ 2 ^ 31
    → ((n b : ℕ) → lookup (nat_eq n) moves ≡ Some (Some b) → n < 2 ^ 31) → o ≡ unwrap_or (lookup (nat_eq n) moves) (at block n) → IsSome o → n < 2 ^ 31
node_small block moves n o few numbers is some = by (lookup (nat_eq n) moves) refl
  where
    within : IsSome (at block n) → n < 2 ^ 31
    within h = elim (cases_lt n (length block)) [
      | inl less ↦ omega (arith, less, few)
      | inr past ↦ absurd (true≢false (sym h ∙ ap is_some (get_or_past block n None past)))
    ]

    by : (u : Option (Option ℕ)) → lookup (nat_eq n) moves ≡ u → n < 2 ^ 31
    by None e = within (sym (ap is_some (is ∙ ap (λ x. unwrap_or x (at block n)) e)) ∙ some)
    by (Some None) e = absurd (true≢false (sym some ∙ ap is_some (is ∙ ap (λ x. unwrap_or x (at block n)) e)))
    by (Some (Some b)) e = numbers n b e

-- nodes that are put one after another
pub has_more : (xs : List ℕ) (i d m : ℕ) → i < length xs → has (take (i + 1) xs) m ≡ (has (take i xs) m || nat_eq m (get_or xs i d))
has_more xs i d m h = ap (λ ys. has ys m) (take_more xs i d h) ∙ list_any-append (nat_eq m) (take i xs) (get_or xs i d ∷ []) ∙ ap (λ t. has (take i xs) m || t) (or_no (nat_eq m (get_or xs i d)))
  where
    or_no : (t : Bool) → (t || false) ≡ t
    or_no true = refl
    or_no false = refl

pub put_more : (xs : List ℕ) (i d m : ℕ) (v first now after : Option ℕ) → i < length xs → now ≡ cond (has (take i xs) m) v first → after ≡ cond (nat_eq m (get_or xs i d)) v now
    → after ≡ cond (has (take (i + 1) xs) m) v first
put_more xs i d m v first now after h e f = f ∙ ap (cond (nat_eq m (get_or xs i d)) v) e ∙ both (has (take i xs) m) (nat_eq m (get_or xs i d)) ∙ sym (ap (λ t. cond t v first) (has_more xs i d m h))
  where
    both : (p q : Bool) → cond q v (cond p v first) ≡ cond (p || q) v first
    both true true = refl
    both true false = refl
    both false true = refl
    both false false = refl

-- of the list that is put
pub some_more : (xs : List ℕ) (i d : ℕ) (v first now : Option ℕ) (b : ℕ) → v ≡ Some b → now ≡ cond (has (take i xs) (get_or xs i d)) v first → IsSome first → IsSome now
some_more xs i d v first now b is e h = ap is_some e ∙ by (has (take i xs) (get_or xs i d))
  where
    by : (t : Bool) → is_some (cond t v first) ≡ true
    by true = ap is_some is
    by false = h
