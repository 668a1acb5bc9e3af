-- What the readers of tokens keep.
use Rattle.std.proofs.Common.{◌≡◌, ℕ, List, [], ◌∷◌, ◌++◌, length, refl, sym, ap, ◌∙◌, subst}
use Rattle.path_spec.specs.Trees as tree
use Rattle.path_spec.specs.Tokens.{Token, lab, underscore, slash, slashes, bar, opening, closing, sign, sep_token, onto, seq_onto, item_onto, atom_onto, tokens, EndsExpr, EndsSeq, EndsItem}
use Rattle.path_spec.proofs.OneTree.{ends_expr_seq, ends_seq_item, sep_ends, sep_goes_on, sep_one, one_expr, one_seq, one_item, one_atom}
use Rattle.path_expr.specs.declared.tree.Following.{Following}
use Rattle.path_expr.specs.declared.tree.Seq.{Seq}
use Rattle.path_expr.specs.ExprTrees.{sep_of, item_of, seq_from, seq_of, expr_from}
use Rattle.path_expr.specs.declared.tree.Sep.TheVariants.{Child, Below}
use Rattle.path_query.specs.declared.token.Token as token
use Rattle.path_query.specs.declared.token.Token.TheVariants.{Label, Any, Sep, Bar, Open, Close, Sign}
use Rattle.path_query.specs.PathTokens.{token_of, seen}

-- one alternative more
pub expr_more : (s : tree.Seq) (rs : List Seq) (r : Seq) (q : List Token) → onto (expr_from s (rs ++ r ∷ [])) q ≡ onto (expr_from s rs) (bar ∷ seq_onto (seq_of r) q)
expr_more s [] r q = refl
expr_more s (t ∷ rs) r q = ap (λ x. seq_onto s (bar ∷ x)) (expr_more (seq_of t) rs r q)

-- one step more
pub seq_more : (i : tree.Item) (ss : List Following) (s : Following) (q : List Token) → seq_onto (seq_from i (ss ++ s ∷ [])) q ≡ seq_onto (seq_from i ss) (sep_token (sep_of s.sep) ∷ item_onto (item_of s.item) q)
seq_more i [] s q = refl
seq_more i (t ∷ ss) s q = ap (λ x. item_onto i (sep_token (sep_of t.sep) ∷ x)) (seq_more (item_of t.item) ss s q)

-- what stands behind a '|' is an expression again
pub expr_peel : (s : tree.Seq) (rs : List Seq) (x : List Token) (e : tree.Expr) (r : List Token) → EndsExpr r → onto (expr_from s rs) (bar ∷ x) ≡ onto e r → (f : tree.Expr) × (x ≡ onto f r)
expr_peel s [] x (tree.only t) r h k =
    let a = one_seq s t (bar ∷ x) r k tt (ends_expr_seq r h) in absurd (subst EndsExpr (sym a.1) h)
expr_peel s [] x (tree.or t f) r h k = let a = one_seq s t (bar ∷ x) (bar ∷ onto f r) k tt tt in (f, cc (a.1))
expr_peel s (q ∷ rs) x (tree.only t) r h k =
    let a = one_seq s t (bar ∷ onto (expr_from (seq_of q) rs) (bar ∷ x)) r k tt (ends_expr_seq r h) in absurd (subst EndsExpr (sym a.1) h)
expr_peel s (q ∷ rs) x (tree.or t f) r h k =
    let a = one_seq s t (bar ∷ onto (expr_from (seq_of q) rs) (bar ∷ x)) (bar ∷ onto f r) k tt tt in
    expr_peel (seq_of q) rs x f r h (cc (a.1))

-- and it begins with a sequence
pub expr_begins : (e : tree.Expr) (r : List Token) → EndsExpr r → (s : tree.Seq) × (q : List Token) × EndsSeq q × (onto e r ≡ seq_onto s q)
expr_begins (tree.only s) r h = (s, r, ends_expr_seq r h, refl)
expr_begins (tree.or s e) r h = (s, bar ∷ onto e r, tt, refl)

pub seq_peel : (i : tree.Item) (ss : List Following) (p : tree.Sep) (x : List Token) (s : tree.Seq) (r : List Token) → EndsSeq r
    → seq_onto (seq_from i ss) (sep_token p ∷ x) ≡ seq_onto s r → (t : tree.Seq) × (x ≡ seq_onto t r)
seq_peel i [] p x (tree.last j) r h k =
    let a = one_item i j (sep_token p ∷ x) r k (sep_ends p x) (ends_seq_item r h) in absurd (sep_goes_on p x (subst EndsSeq (sym a.1) h))
seq_peel i [] p x (tree.then j o t) r h k =
    let a = one_item i j (sep_token p ∷ x) (sep_token o ∷ seq_onto t r) k (sep_ends p x) (sep_ends o (seq_onto t r)) in
    (t, (sep_one p o x (seq_onto t r) a.1).1)
seq_peel i (y ∷ ss) p x (tree.last j) r h k =
    let rest = seq_onto (seq_from (item_of y.item) ss) (sep_token p ∷ x) in
    let a = one_item i j (sep_token (sep_of y.sep) ∷ rest) r k (sep_ends (sep_of y.sep) rest) (ends_seq_item r h) in
    absurd (sep_goes_on (sep_of y.sep) rest (subst EndsSeq (sym a.1) h))
seq_peel i (y ∷ ss) p x (tree.then j o t) r h k =
    let rest = seq_onto (seq_from (item_of y.item) ss) (sep_token p ∷ x) in
    let a = one_item i j (sep_token (sep_of y.sep) ∷ rest) (sep_token o ∷ seq_onto t r) k (sep_ends (sep_of y.sep) rest) (sep_ends o (seq_onto t r)) in
    seq_peel (item_of y.item) ss p x t r h (sep_one (sep_of y.sep) o rest (seq_onto t r) a.1).1

pub seq_begins : (s : tree.Seq) (r : List Token) → EndsSeq r → (i : tree.Item) × (q : List Token) × EndsItem q × (seq_onto s r ≡ item_onto i q)
seq_begins (tree.last i) r h = (i, r, ends_seq_item r h, refl)
seq_begins (tree.then i p s) r h = (i, sep_token p ∷ seq_onto s r, sep_ends p (seq_onto s r), refl)

pub item_begins : (i : tree.Item) (r : List Token) → (a : tree.Atom) × (q : List Token) × (item_onto i r ≡ atom_onto a q)
item_begins (tree.once a) r = (a, r, refl)
item_begins (tree.signed a g) r = (a, sign g ∷ r, refl)

-- what ends an item, and is no separator, ends a sequence
pub seq_ends : (r : List Token) → EndsItem r → ((p : tree.Sep) (q : List Token) → r ≡ sep_token p ∷ q → ⊥) → EndsSeq r
seq_ends [] h k = tt
seq_ends (lab t ∷ r) h k = h
seq_ends (underscore ∷ r) h k = h
seq_ends (slash ∷ r) h k = absurd (k tree.child r refl)
seq_ends (slashes ∷ r) h k = absurd (k tree.below r refl)
seq_ends (bar ∷ r) h k = tt
seq_ends (opening ∷ r) h k = h
seq_ends (closing ∷ r) h k = tt
seq_ends (sign g ∷ r) h k = h

pub expr_ends : (r : List Token) → EndsSeq r → ((q : List Token) → r ≡ bar ∷ q → ⊥) → EndsExpr r
expr_ends [] h k = tt
expr_ends (lab t ∷ r) h k = h
expr_ends (underscore ∷ r) h k = h
expr_ends (slash ∷ r) h k = h
expr_ends (slashes ∷ r) h k = h
expr_ends (bar ∷ r) h k = absurd (k r refl)
expr_ends (opening ∷ r) h k = h
expr_ends (closing ∷ r) h k = tt
expr_ends (sign g ∷ r) h k = h

pub nothing_left : (r : List Token) → EndsExpr r → ((q : List Token) → r ≡ closing ∷ q → ⊥) → r ≡ []
nothing_left [] h k = refl
nothing_left (lab t ∷ r) h k = absurd h
nothing_left (underscore ∷ r) h k = absurd h
nothing_left (slash ∷ r) h k = absurd h
nothing_left (slashes ∷ r) h k = absurd h
nothing_left (bar ∷ r) h k = absurd h
nothing_left (opening ∷ r) h k = absurd h
nothing_left (closing ∷ r) h k = absurd (k r refl)
nothing_left (sign g ∷ r) h k = absurd h

pub sign_only : (x : List Token) (g : tree.Sign) (y : List Token) (a : tree.Atom) (i : tree.Item) (r : List Token) → x ≡ sign g ∷ y → EndsItem r → atom_onto a x ≡ item_onto i r → r ≡ y
sign_only x g y a (tree.once b) r e h k = let c = one_atom a b x r k in absurd (subst EndsItem (sym c.1 ∙ e) h)
sign_only x g y a (tree.signed b o) r e h k =
    let c = one_atom a b x (sign o ∷ r) k in
    let same : sign o ∷ r ≡ sign g ∷ y = sym c.1 ∙ e in cc

pub no_sign_only : (x : List Token) (a : tree.Atom) (i : tree.Item) (r : List Token) → ((g : tree.Sign) (y : List Token) → x ≡ sign g ∷ y → ⊥) → EndsItem r → atom_onto a x ≡ item_onto i r → r ≡ x
no_sign_only x a (tree.once b) r none h k = sym (one_atom a b x r k).1
no_sign_only x a (tree.signed b o) r none h k = absurd (none o r (one_atom a b x (sign o ∷ r) k).1)

-- with what an atom begins
abbrev pub BeginsAtom : List Token → Type 0
BeginsAtom [] = ⊥
BeginsAtom (lab t ∷ r) = Unit {0}
BeginsAtom (underscore ∷ r) = Unit {0}
BeginsAtom (slash ∷ r) = ⊥
BeginsAtom (slashes ∷ r) = ⊥
BeginsAtom (bar ∷ r) = ⊥
BeginsAtom (opening ∷ r) = Unit {0}
BeginsAtom (closing ∷ r) = ⊥
BeginsAtom (sign g ∷ r) = ⊥

atom_begins : (a : tree.Atom) (r : List Token) → BeginsAtom (atom_onto a r)
atom_begins (tree.label t) r = tt
atom_begins tree.any r = tt
atom_begins (tree.group e) r = tt

pub none_begins : (x : List Token) (a : tree.Atom) (r : List Token) → x ≡ [] → x ≡ atom_onto a r → ⊥
none_begins x a r e k = subst BeginsAtom (sym k ∙ e) (atom_begins a r)

other_begins : (t : token.Token) (y : List Token) → ((x : List ℕ) → t ≡ Label x → ⊥) → (t ≡ Any → ⊥) → (t ≡ Open → ⊥) → BeginsAtom (token_of t ∷ y) → ⊥
other_begins (Label x) y l a o h = l x refl
other_begins Any y l a o h = a refl
other_begins (Sep Child) y l a o h = h
other_begins (Sep Below) y l a o h = h
other_begins Bar y l a o h = h
other_begins Open y l a o h = o refl
other_begins Close y l a o h = h
other_begins (Sign s) y l a o h = h

pub other_token : (x : List Token) (t : token.Token) (y : List Token) (a : tree.Atom) (r : List Token) → x ≡ token_of t ∷ y → ((u : List ℕ) → t ≡ Label u → ⊥) → (t ≡ Any → ⊥) → (t ≡ Open → ⊥)
    → x ≡ atom_onto a r → ⊥
other_token x t y a r e l n o k = other_begins t y l n o (subst BeginsAtom (sym k ∙ e) (atom_begins a r))

-- what stands in parentheses
pub inside_of : (x : List Token) (t : token.Token) (y : List Token) (a : tree.Atom) (r : List Token) → x ≡ token_of t ∷ y → t ≡ Open → x ≡ atom_onto a r → (f : tree.Expr) × (y ≡ onto f (closing ∷ r))
inside_of x t y a r e o k = by a (sym (e ∙ ap (λ u. token_of u ∷ y) o) ∙ k)
  where
    by : (a : tree.Atom) → opening ∷ y ≡ atom_onto a r → (f : tree.Expr) × (y ≡ onto f (closing ∷ r))
    by (tree.label t) h = cc
    by tree.any h = cc
    by (tree.group f) h = (f, cc (h))

-- the parenthesis isn't closed
pub unclosed : (y : List Token) (e f : tree.Expr) (z r : List Token) → y ≡ onto e z → EndsExpr z → ((q : List Token) → z ≡ closing ∷ q → ⊥) → y ≡ onto f (closing ∷ r) → ⊥
unclosed y e f z r h ends none k = none r (one_expr e f z (closing ∷ r) (sym h ∙ k) ends tt).1

seen_nil : (ts : List token.Token) → seen ts ≡ [] → length ts ≡ 0
seen_nil [] e = refl
seen_nil (t ∷ ts) e = cc

pub all_read : (x : List Token) (ts : List token.Token) (e f : tree.Expr) → x ≡ onto e (seen ts) → EndsExpr (seen ts) → x ≡ tokens f → length ts ≡ 0
all_read x ts e f h ends k = seen_nil ts (one_expr e f (seen ts) [] (sym h ∙ k) ends tt).1
