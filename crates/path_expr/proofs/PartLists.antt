-- The parts of a tree by the lists from which it is made.
use Rattle.std.proofs.Common.{◌≡◌, ℕ, zero, suc, ◌+◌, ◌<◌, length, get_or, List, [], ◌∷◌, Some, refl, sym, ap, subst, arith}
use Rattle.std.specs.Prelude.{slice_get}
use Rattle.path_spec.specs.Trees as tree
use Rattle.path_expr.specs.declared.tree.Following.{Following}
use Rattle.path_expr.specs.declared.tree.Seq.{Seq}
use Rattle.path_expr.specs.ExprTrees.{item_of, sep_of, seq_of, seq_from, expr_from}
use Rattle.path_expr.specs.TreeParts.{alternatives, items, separators}

pub alternatives_len : (s : tree.Seq) (more : List Seq) → length (alternatives (expr_from s more)) ≡ length more + 1
alternatives_len s [] = refl
alternatives_len s (r ∷ rs) = let e = alternatives_len (seq_of r) rs in omega (arith, e)

pub first_alternative : (s : tree.Seq) (more : List Seq) → slice_get (alternatives (expr_from s more)) 0 ≡ Some s
first_alternative s [] = refl
first_alternative s (r ∷ rs) = refl

there_alternative : (s : tree.Seq) (more : List Seq) (k : ℕ) (r : Seq) → k < length more → r ≡ get_or more k r → slice_get (alternatives (expr_from s more)) (suc k) ≡ Some (seq_of r)
there_alternative s [] k r l h = absurd (omega (arith, l))
there_alternative s (q ∷ rs) zero r l h = subst (λ x. slice_get (alternatives (expr_from (seq_of q) rs)) 0 ≡ Some (seq_of x)) (sym h) (first_alternative (seq_of q) rs)
there_alternative s (q ∷ rs) (suc k) r l h = there_alternative (seq_of q) rs k r (omega (arith, l)) h

pub next_alternative : (s : tree.Seq) (more : List Seq) (j k : ℕ) (r : Seq) → j ≡ k + 1 → k < length more → r ≡ get_or more k r → slice_get (alternatives (expr_from s more)) j ≡ Some (seq_of r)
next_alternative s more j k r e l h =
    let n : suc k ≡ j = omega (arith, e) in
    subst (λ i. slice_get (alternatives (expr_from s more)) i ≡ Some (seq_of r)) n (there_alternative s more k r l h)

pub first_item : (i : tree.Item) (rest : List Following) → slice_get (items (seq_from i rest)) 0 ≡ Some i
first_item i [] = refl
first_item i (s ∷ ss) = refl

there_item : (i : tree.Item) (rest : List Following) (j : ℕ) (s : Following) → j < length rest → s ≡ get_or rest j s → slice_get (items (seq_from i rest)) (suc j) ≡ Some (item_of s.item)
there_item i [] j s l h = absurd (omega (arith, l))
there_item i (q ∷ ss) zero s l h = subst (λ x. slice_get (items (seq_from (item_of q.item) ss)) 0 ≡ Some (item_of x.item)) (sym h) (first_item (item_of q.item) ss)
there_item i (q ∷ ss) (suc j) s l h = there_item (item_of q.item) ss j s (omega (arith, l)) h

pub next_item : (i : tree.Item) (rest : List Following) (j : ℕ) (s : Following) → j < length rest → s ≡ get_or rest j s → slice_get (items (seq_from i rest)) (j + 1) ≡ Some (item_of s.item)
next_item i rest j s l h =
    let n : suc j ≡ j + 1 = omega arith in
    subst (λ k. slice_get (items (seq_from i rest)) k ≡ Some (item_of s.item)) n (there_item i rest j s l h)

pub separators_len : (i : tree.Item) (rest : List Following) → length rest ≡ length (separators (seq_from i rest))
separators_len i [] = refl
separators_len i (s ∷ ss) = ap suc (separators_len (item_of s.item) ss)

pub separator_there : (i : tree.Item) (rest : List Following) (j : ℕ) (s : Following) → j < length rest → s ≡ get_or rest j s → slice_get (separators (seq_from i rest)) j ≡ Some (sep_of s.sep)
separator_there i [] j s l h = absurd (omega (arith, l))
separator_there i (q ∷ ss) zero s l h = ap (λ x. Some (sep_of x.sep)) (sym h)
separator_there i (q ∷ ss) (suc j) s l h = separator_there (item_of q.item) ss j s (omega (arith, l)) h
