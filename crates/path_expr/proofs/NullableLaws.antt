-- How the tests of parts with the empty word make that of the whole.
use Rattle.std.proofs.Common.{◌≡◌, ◌||◌, ◌&&◌, ℕ, ◌+◌, ◌<◌, Bool, true, false, length, take, get_or, List, [], ◌∷◌, ◌++◌, refl, sym, ap, ◌∙◌}
use Rattle.std.proofs.lemmas.List.{take_more}
use Rattle.path_spec.specs.Trees as tree
use Rattle.path_spec.specs.Tests.{matches, seq_matches, item_matches}
use Rattle.path_expr.specs.declared.tree.Sep.{Sep}
use Rattle.path_expr.specs.declared.tree.Sep.TheVariants.{Child, Below}
use Rattle.path_expr.specs.declared.tree.Following.{Following}
use Rattle.path_expr.specs.declared.tree.Seq.{Seq}
use Rattle.path_expr.specs.ExprTrees.{sep_of, item_of, seq_of, seq_from, expr_from}

and_assoc : (a b c : Bool) → (a && (b && c)) ≡ ((a && b) && c)
and_assoc true b c = refl
and_assoc false b c = refl

or_assoc : (a b c : Bool) → (a || (b || c)) ≡ ((a || b) || c)
or_assoc true b c = refl
or_assoc false b c = refl

-- whatever the separator
either_sep : (i : tree.Item) (o : Sep) (s : tree.Seq) → seq_matches (tree.then i (sep_of o) s) [] ≡ (item_matches i [] && seq_matches s [])
either_sep i Child s = refl
either_sep i Below s = refl

seq_more : (i : tree.Item) (ss : List Following) (s : Following) → seq_matches (seq_from i (ss ++ s ∷ [])) [] ≡ (seq_matches (seq_from i ss) [] && item_matches (item_of s.item) [])
seq_more i [] s = either_sep i s.sep (tree.last (item_of s.item))
seq_more i (t ∷ ss) s =
    either_sep i t.sep (seq_from (item_of t.item) (ss ++ s ∷ []))
    ∙ ap (λ b. item_matches i [] && b) (seq_more (item_of t.item) ss s)
    ∙ and_assoc (item_matches i []) (seq_matches (seq_from (item_of t.item) ss) []) (item_matches (item_of s.item) [])
    ∙ ap (λ b. b && item_matches (item_of s.item) []) (sym (either_sep i t.sep (seq_from (item_of t.item) ss)))

expr_more : (s : tree.Seq) (rs : List Seq) (r : Seq) → matches (expr_from s (rs ++ r ∷ [])) [] ≡ (matches (expr_from s rs) [] || seq_matches (seq_of r) [])
expr_more s [] r = refl
expr_more s (t ∷ rs) r = ap (λ b. seq_matches s [] || b) (expr_more (seq_of t) rs r) ∙ or_assoc (seq_matches s []) (matches (expr_from (seq_of t) rs) []) (seq_matches (seq_of r) [])

pub seq_step : (i : tree.Item) (xs : List Following) (j : ℕ) (x : Following) → j < length xs → x ≡ get_or xs j x
    → (seq_matches (seq_from i (take j xs)) [] && item_matches (item_of x.item) []) ≡ seq_matches (seq_from i (take (j + 1) xs)) []
seq_step i xs j x within e = sym (seq_more i (take j xs) x) ∙ ap (λ y. seq_matches (seq_from i y) []) (ap (λ y. take j xs ++ y ∷ []) e ∙ sym (take_more xs j x within))

pub expr_step : (s : tree.Seq) (xs : List Seq) (j : ℕ) (x : Seq) → j < length xs → x ≡ get_or xs j x
    → (matches (expr_from s (take j xs)) [] || seq_matches (seq_of x) []) ≡ matches (expr_from s (take (j + 1) xs)) []
expr_step s xs j x within e = sym (expr_more s (take j xs) x) ∙ ap (λ y. matches (expr_from s y) []) (ap (λ y. take j xs ++ y ∷ []) e ∙ sym (take_more xs j x within))
