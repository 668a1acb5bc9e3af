-- What is left of a sequence at its front, by the number of items that are left out.
use Rattle.std.proofs.Common.{◌≡◌, ℕ, zero, suc, ◌<◌, ◌≤◌, true, false, cond, length, drop, List, [], ◌∷◌, Some, refl, sym, ap, ◌∙◌, arith}
use Rattle.std.specs.Prelude.{slice_get}
use Rattle.std.proofs.lemmas.Option.{same_Some}
use Rattle.path_spec.specs.Trees.{Seq, last, then, Item}
use Rattle.path_spec.specs.Tests.{seq_matches, item_matches}
use Rattle.path_spec.specs.Trimmed.{trimmed_item, first_trimmed, from_required, trimmed_seq}
use Rattle.path_expr.specs.declared.tree.Item.{Item as CodeItem}
use Rattle.path_expr.specs.declared.tree.Following.{Following}
use Rattle.path_expr.specs.ExprTrees.{item_of, sep_of, seq_from}
use Rattle.path_expr.specs.TreeParts.{items, separators, without_first}

pub first_same : (s : Seq) → from_required s ≡ from_required (without_first 0 s)
first_same s = refl

-- past an item that the empty word matches
pub reading_past : (s : Seq) (n : ℕ) (i : Item) → slice_get (items s) n ≡ Some i → n < length (separators s) → item_matches i [] ≡ true
    → from_required (without_first n s) ≡ from_required (without_first (suc n) s)
reading_past (last i) n x there l h = absurd (omega (arith, l))
reading_past (then i p s) zero x there l h =
    let same : i ≡ x = cc in
    ap (λ b. cond b (from_required s) (then i p s)) (ap (λ y. item_matches y []) same ∙ h)
reading_past (then i p s) (suc n) x there l h = reading_past s n x there (omega (arith, l)) h

-- and up to one that it doesn't
pub required_here : (s : Seq) (n : ℕ) (i : Item) → slice_get (items s) n ≡ Some i → item_matches i [] ≡ false → from_required (without_first n s) ≡ without_first n s
required_here (last i) zero x there h = refl
required_here (last i) (suc n) x there h = refl
required_here (then i p s) zero x there h =
    let same : i ≡ x = cc in
    ap (λ b. cond b (from_required s) (then i p s)) (ap (λ y. item_matches y []) same ∙ h)
required_here (then i p s) (suc n) x there h = required_here s n x there h

pub required_last : (s : Seq) (n : ℕ) → n ≡ length (separators s) → from_required (without_first n s) ≡ without_first n s
required_last (last i) zero e = refl
required_last (last i) (suc n) e = refl
required_last (then i p s) zero e = absurd (omega (arith, e))
required_last (then i p s) (suc n) e = required_last s n (omega (arith, e))

pub trimmed_required : (s : Seq) (n : ℕ) → seq_matches s [] ≡ false → from_required s ≡ without_first n s → trimmed_seq s ≡ first_trimmed (without_first n s)
trimmed_required s n h e = ap (λ b. first_trimmed (cond b s (from_required s))) h ∙ ap first_trimmed e

pub trimmed_all : (s : Seq) → seq_matches s [] ≡ true → trimmed_seq s ≡ first_trimmed s
trimmed_all s h = ap (λ b. first_trimmed (cond b s (from_required s))) h

-- what is left is an item and the steps behind it
left : (i : Item) (steps : List Following) (n : ℕ) (x : CodeItem) → n ≤ length steps → slice_get (items (seq_from i steps)) n ≡ Some (item_of x)
    → without_first n (seq_from i steps) ≡ seq_from (item_of x) (drop n steps)
left i [] zero x l h = ap last (same_Some i (item_of x) h)
left i [] (suc n) x l h = absurd (omega (arith, l))
left i (s ∷ ss) zero x l h = ap (λ y. then y (sep_of s.sep) (seq_from (item_of s.item) ss)) (same_Some i (item_of x) h)
left i (s ∷ ss) (suc n) x l h = left (item_of s.item) ss n x (omega (arith, l)) h

first_of : (i : Item) (steps : List Following) → first_trimmed (seq_from i steps) ≡ seq_from (trimmed_item i) steps
first_of i [] = refl
first_of i (s ∷ ss) = refl

pub trimmed_left : (i : Item) (steps : List Following) (n : ℕ) (x : CodeItem) (y : Item) → n ≤ length steps → slice_get (items (seq_from i steps)) n ≡ Some (item_of x) → y ≡ trimmed_item (item_of x)
    → trimmed_seq (seq_from i steps) ≡ first_trimmed (without_first n (seq_from i steps)) → seq_from y (drop n steps) ≡ trimmed_seq (seq_from i steps)
trimmed_left i steps n x y l h e k =
    ap (λ z. seq_from z (drop n steps)) e
    ∙ sym (k ∙ ap first_trimmed (left i steps n x l h) ∙ first_of (item_of x) (drop n steps))
