-- The canonical text is that of the tokens.
use Rattle.std.proofs.Common.{◌≡◌, ℕ, ◌+◌, ◌<◌, length, take, get_or, List, [], ◌∷◌, ◌++◌, refl, sym, ap, ◌∙◌, append-nil, append_assoc}
use Rattle.std.specs.List.{flat_map}
use Rattle.path_spec.specs.Trees.{Expr, only, or, Seq, last, then, Item, once, signed, Atom, label, any, group}
use Rattle.path_spec.specs.Tokens.{Token, bar, closing, sign, sep_token, onto, seq_onto, item_onto, atom_onto}
use Rattle.path_spec.specs.Spelling.{sign_byte, token_text, canonical}
use Rattle.std.proofs.lemmas.List.{take_more}
use Rattle.path_expr.specs.declared.tree.Seq as code
use Rattle.path_expr.specs.declared.tree.Following.{Following}
use Rattle.path_expr.specs.ExprTrees.{sep_of, item_of, seq_of, seq_from, expr_from}
use Rattle.path_query.specs.PathTexts.{expr_text, seq_text, item_text, atom_text}

abbrev text : List Token → List ℕ
text ts = flat_map token_text ts

mutual
  expr_is : (e : Expr) (r : List Token) → text (onto e r) ≡ expr_text e ++ text r
  expr_is (only s) r = seq_is s r
  expr_is (or s e) r =
      seq_is s (bar ∷ onto e r) ∙ ap (λ x. seq_text s ++ 124 ∷ x) (expr_is e r) ∙ sym (append_assoc (seq_text s) (124 ∷ expr_text e) (text r))

  seq_is : (s : Seq) (r : List Token) → text (seq_onto s r) ≡ seq_text s ++ text r
  seq_is (last i) r = item_is i r
  seq_is (then i p s) r =
      item_is i (sep_token p ∷ seq_onto s r)
      ∙ ap (λ x. item_text i ++ (token_text (sep_token p) ++ x)) (seq_is s r)
      ∙ ap (λ x. item_text i ++ x) (sym (append_assoc (token_text (sep_token p)) (seq_text s) (text r)))
      ∙ sym (append_assoc (item_text i) (token_text (sep_token p) ++ seq_text s) (text r))

  item_is : (i : Item) (r : List Token) → text (item_onto i r) ≡ item_text i ++ text r
  item_is (once a) r = atom_is a r
  item_is (signed a g) r = atom_is a (sign g ∷ r) ∙ sym (append_assoc (atom_text a) (sign_byte g ∷ []) (text r))

  atom_is : (a : Atom) (r : List Token) → text (atom_onto a r) ≡ atom_text a ++ text r
  atom_is (label t) r = refl
  atom_is any r = refl
  atom_is (group e) r = ap (λ x. 40 ∷ x) (expr_is e (closing ∷ r)) ∙ ap (λ x. 40 ∷ x) (sym (append_assoc (expr_text e) (41 ∷ []) (text r)))

pub canonical_is : (e : Expr) → expr_text e ≡ canonical e
canonical_is e = sym (expr_is e [] ∙ append-nil (expr_text e))

-- one part more
pub expr_text_more : (s : Seq) (rs : List code.Seq) (r : code.Seq) → expr_text (expr_from s (rs ++ r ∷ [])) ≡ expr_text (expr_from s rs) ++ (124 ∷ seq_text (seq_of r))
expr_text_more s [] r = refl
expr_text_more s (t ∷ rs) r =
    ap (λ x. seq_text s ++ 124 ∷ x) (expr_text_more (seq_of t) rs r) ∙ sym (append_assoc (seq_text s) (124 ∷ expr_text (expr_from (seq_of t) rs)) (124 ∷ seq_text (seq_of r)))

pub seq_text_more : (i : Item) (ss : List Following) (s : Following)
    → seq_text (seq_from i (ss ++ s ∷ [])) ≡ seq_text (seq_from i ss) ++ (token_text (sep_token (sep_of s.sep)) ++ item_text (item_of s.item))
seq_text_more i [] s = refl
seq_text_more i (t ∷ ss) s =
    let mark : List ℕ = token_text (sep_token (sep_of t.sep)) in
    let more : List ℕ = token_text (sep_token (sep_of s.sep)) ++ item_text (item_of s.item) in
    ap (λ x. item_text i ++ (mark ++ x)) (seq_text_more (item_of t.item) ss s)
    ∙ ap (λ x. item_text i ++ x) (sym (append_assoc mark (seq_text (seq_from (item_of t.item) ss)) more))
    ∙ sym (append_assoc (item_text i) (mark ++ seq_text (seq_from (item_of t.item) ss)) more)

-- a step of the loops: what was written, and what is written now
pub expr_step : (out old : List ℕ) (a out2 : List ℕ) (s : Seq) (xs : List code.Seq) (j : ℕ) (x : code.Seq) → j < length xs → x ≡ get_or xs j x
    → out ≡ old ++ expr_text (expr_from s (take j xs)) → a ≡ out ++ 124 ∷ [] → out2 ≡ a ++ seq_text (seq_of x) → out2 ≡ old ++ expr_text (expr_from s (take (j + 1) xs))
expr_step out old a out2 s xs j x within e h k l =
    l ∙ ap (λ y. y ++ seq_text (seq_of x)) k ∙ append_assoc out (124 ∷ []) (seq_text (seq_of x)) ∙ ap (λ y. y ++ (124 ∷ seq_text (seq_of x))) h
    ∙ append_assoc old (expr_text (expr_from s (take j xs))) (124 ∷ seq_text (seq_of x))
    ∙ ap (λ y. old ++ y) (sym (expr_text_more s (take j xs) x) ∙ ap (λ y. expr_text (expr_from s y)) (ap (λ y. take j xs ++ y ∷ []) e ∙ sym (take_more xs j x within)))

pub seq_step : (out old : List ℕ) (a out2 : List ℕ) (i : Item) (xs : List Following) (j : ℕ) (x : Following) → j < length xs → x ≡ get_or xs j x
    → out ≡ old ++ seq_text (seq_from i (take j xs)) → a ≡ out ++ token_text (sep_token (sep_of x.sep)) → out2 ≡ a ++ item_text (item_of x.item)
    → out2 ≡ old ++ seq_text (seq_from i (take (j + 1) xs))
seq_step out old a out2 i xs j x within e h k l =
    let mark : List ℕ = token_text (sep_token (sep_of x.sep)) in
    l ∙ ap (λ y. y ++ item_text (item_of x.item)) k ∙ append_assoc out mark (item_text (item_of x.item)) ∙ ap (λ y. y ++ (mark ++ item_text (item_of x.item))) h
    ∙ append_assoc old (seq_text (seq_from i (take j xs))) (mark ++ item_text (item_of x.item))
    ∙ ap (λ y. old ++ y) (sym (seq_text_more i (take j xs) x) ∙ ap (λ y. seq_text (seq_from i y)) (ap (λ y. take j xs ++ y ∷ []) e ∙ sym (take_more xs j x within)))
