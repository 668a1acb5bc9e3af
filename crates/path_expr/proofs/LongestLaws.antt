-- How the lengths of parts make that of the whole.
use Rattle.std.proofs.Common.{◌≡◌, ℕ, ◌+◌, ◌<◌, length, take, get_or, List, [], ◌∷◌, ◌++◌, refl, sym, ap, ◌∙◌, arith, Option, None, Some}
use Rattle.std.proofs.lemmas.List.{take_more}
use Rattle.path_spec.specs.Trees as tree
use Rattle.path_spec.specs.Longest.{greater}
use Rattle.path_spec.proofs.Longest.{greater_assoc}
use Rattle.path_expr.specs.WordLengths.{longest, seq_longest, item_longest, together}
use Rattle.path_expr.specs.declared.tree.Sep.{Sep}
use Rattle.path_expr.specs.declared.tree.Sep.TheVariants.{Child, Below}
use Rattle.path_expr.specs.declared.tree.Following.{Following}
use Rattle.path_expr.specs.declared.tree.Seq.{Seq}
use Rattle.path_expr.specs.Capped.{capped, greatest_length}
use Rattle.path_expr.specs.ExprTrees.{sep_of, item_of, seq_of, seq_from, expr_from}

together_assoc : (a b c : Option ℕ) → together a (together b c) ≡ together (together a b) c
together_assoc None b c = refl
together_assoc (Some m) None c = refl
together_assoc (Some m) (Some n) None = refl
together_assoc (Some m) (Some n) (Some k) = let e : m + (n + k) ≡ m + n + k = omega arith in ap Some e

together_none : (a : Option ℕ) → together a None ≡ None
together_none None = refl
together_none (Some m) = refl

-- one step more
abbrev pub with_step : Option ℕ → Sep → tree.Item → Option ℕ
with_step len Child i = together len (item_longest i)
with_step len Below i = None

seq_more : (i : tree.Item) (ss : List Following) (s : Following) → seq_longest (seq_from i (ss ++ s ∷ [])) ≡ with_step (seq_longest (seq_from i ss)) s.sep (item_of s.item)
seq_more i [] s = by s.sep
  where
    by : (o : Sep) → seq_longest (tree.then i (sep_of o) (tree.last (item_of s.item))) ≡ with_step (item_longest i) o (item_of s.item)
    by Child = refl
    by Below = refl
seq_more i (t ∷ ss) s = by t.sep s.sep (seq_more (item_of t.item) ss s)
  where
    by : (o p : Sep) → seq_longest (seq_from (item_of t.item) (ss ++ s ∷ [])) ≡ with_step (seq_longest (seq_from (item_of t.item) ss)) p (item_of s.item)
        → seq_longest (tree.then i (sep_of o) (seq_from (item_of t.item) (ss ++ s ∷ []))) ≡ with_step (seq_longest (tree.then i (sep_of o) (seq_from (item_of t.item) ss))) p (item_of s.item)
    by Child Child e = ap (together (item_longest i)) e ∙ together_assoc (item_longest i) (seq_longest (seq_from (item_of t.item) ss)) (item_longest (item_of s.item))
    by Child Below e = ap (together (item_longest i)) e ∙ together_none (item_longest i)
    by Below Child e = refl
    by Below Below e = refl

expr_more : (s : tree.Seq) (rs : List Seq) (r : Seq) → longest (expr_from s (rs ++ r ∷ [])) ≡ greater (longest (expr_from s rs)) (seq_longest (seq_of r))
expr_more s [] r = refl
expr_more s (t ∷ rs) r = ap (greater (seq_longest s)) (expr_more (seq_of t) rs r) ∙ greater_assoc (seq_longest s) (longest (expr_from (seq_of t) rs)) (seq_longest (seq_of r))

pub seq_step : (i : tree.Item) (xs : List Following) (j : ℕ) (x : Following) → j < length xs → x ≡ get_or xs j x
    → with_step (seq_longest (seq_from i (take j xs))) x.sep (item_of x.item) ≡ seq_longest (seq_from i (take (j + 1) xs))
seq_step i xs j x within e = sym (seq_more i (take j xs) x) ∙ ap (λ y. seq_longest (seq_from i y)) (ap (λ y. take j xs ++ y ∷ []) e ∙ sym (take_more xs j x within))

pub expr_step : (s : tree.Seq) (xs : List Seq) (j : ℕ) (x : Seq) → j < length xs → x ≡ get_or xs j x
    → greater (longest (expr_from s (take j xs))) (seq_longest (seq_of x)) ≡ longest (expr_from s (take (j + 1) xs))
expr_step s xs j x within e = sym (expr_more s (take j xs) x) ∙ ap (λ y. longest (expr_from s y)) (ap (λ y. take j xs ++ y ∷ []) e ∙ sym (take_more xs j x within))

pub by_sep : (o : Sep) (before result x : Option ℕ) (i : tree.Item) → before ≡ capped greatest_length x → (o ≡ Child → (y : Option ℕ) → before ≡ capped greatest_length y → result ≡ capped greatest_length (together y (item_longest i)))
    → (o ≡ Below → result ≡ None) → result ≡ capped greatest_length (with_step x o i)
by_sep Child before result x i h c b = c refl x h
by_sep Below before result x i h c b = b refl
