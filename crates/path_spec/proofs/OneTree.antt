-- A list of tokens has at most one reading.
use Rattle.std.proofs.Common.{◌≡◌, List, [], ◌∷◌, refl, sym, ap, subst}
use Rattle.path_spec.specs.Trees.{Sep, child, below, Expr, only, or, Seq, last, then, Item, once, signed, Atom, label, any, group}
use Rattle.path_spec.specs.Tokens.{Token, lab, underscore, slash, slashes, bar, opening, closing, sign, sep_token, onto, seq_onto, item_onto, atom_onto, tokens, EndsExpr, EndsSeq, EndsItem}

pub ends_expr_seq : (r : List Token) → EndsExpr r → EndsSeq r
ends_expr_seq [] h = tt
ends_expr_seq (lab t ∷ r) h = h
ends_expr_seq (underscore ∷ r) h = h
ends_expr_seq (slash ∷ r) h = h
ends_expr_seq (slashes ∷ r) h = h
ends_expr_seq (bar ∷ r) h = tt
ends_expr_seq (opening ∷ r) h = h
ends_expr_seq (closing ∷ r) h = tt
ends_expr_seq (sign g ∷ r) h = h

pub ends_seq_item : (r : List Token) → EndsSeq r → EndsItem r
ends_seq_item [] h = tt
ends_seq_item (lab t ∷ r) h = h
ends_seq_item (underscore ∷ r) h = h
ends_seq_item (slash ∷ r) h = tt
ends_seq_item (slashes ∷ r) h = tt
ends_seq_item (bar ∷ r) h = tt
ends_seq_item (opening ∷ r) h = h
ends_seq_item (closing ∷ r) h = tt
ends_seq_item (sign g ∷ r) h = h

pub sep_ends : (p : Sep) (r : List Token) → EndsItem (sep_token p ∷ r)
sep_ends child r = tt
sep_ends below r = tt

pub sep_goes_on : (p : Sep) (r : List Token) → EndsSeq (sep_token p ∷ r) → ⊥
sep_goes_on child r h = h
sep_goes_on below r h = h

pub sep_one : (p q : Sep) (r s : List Token) → sep_token p ∷ r ≡ sep_token q ∷ s → (p ≡ q) × (r ≡ s)
sep_one child child r s e = (refl, cc)
sep_one child below r s e = cc
sep_one below child r s e = cc
sep_one below below r s e = (refl, cc)

mutual
  pub one_expr : (e f : Expr) (r q : List Token) → onto e r ≡ onto f q → EndsExpr r → EndsExpr q → (e ≡ f) × (r ≡ q)
  one_expr (only s) (only t) r q k h j = let a = one_seq s t r q k (ends_expr_seq r h) (ends_expr_seq q j) in (ap only a.0, a.1)
  one_expr (only s) (or t f) r q k h j =
      let a = one_seq s t r (bar ∷ onto f q) k (ends_expr_seq r h) tt in absurd (subst EndsExpr a.1 h)
  one_expr (or s e) (only t) r q k h j =
      let a = one_seq s t (bar ∷ onto e r) q k tt (ends_expr_seq q j) in absurd (subst EndsExpr (sym a.1) j)
  one_expr (or s e) (or t f) r q k h j =
      let a = one_seq s t (bar ∷ onto e r) (bar ∷ onto f q) k tt tt in
      let tails : onto e r ≡ onto f q = cc (a.1) in
      let b = one_expr e f r q tails h j in
      ((λ i. or (a.0 i) (b.0 i)), b.1)

  pub one_seq : (s t : Seq) (r q : List Token) → seq_onto s r ≡ seq_onto t q → EndsSeq r → EndsSeq q → (s ≡ t) × (r ≡ q)
  one_seq (last a) (last b) r q k h j = let c = one_item a b r q k (ends_seq_item r h) (ends_seq_item q j) in (ap last c.0, c.1)
  one_seq (last a) (then b p t) r q k h j =
      let c = one_item a b r (sep_token p ∷ seq_onto t q) k (ends_seq_item r h) (sep_ends p (seq_onto t q)) in
      absurd (sep_goes_on p (seq_onto t q) (subst EndsSeq c.1 h))
  one_seq (then a o s) (last b) r q k h j =
      let c = one_item a b (sep_token o ∷ seq_onto s r) q k (sep_ends o (seq_onto s r)) (ends_seq_item q j) in
      absurd (sep_goes_on o (seq_onto s r) (subst EndsSeq (sym c.1) j))
  one_seq (then a o s) (then b p t) r q k h j =
      let c = one_item a b (sep_token o ∷ seq_onto s r) (sep_token p ∷ seq_onto t q) k (sep_ends o (seq_onto s r)) (sep_ends p (seq_onto t q)) in
      let d = sep_one o p (seq_onto s r) (seq_onto t q) c.1 in
      let e = one_seq s t r q d.1 h j in
      ((λ i. then (c.0 i) (d.0 i) (e.0 i)), e.1)

  pub one_item : (a b : Item) (r q : List Token) → item_onto a r ≡ item_onto b q → EndsItem r → EndsItem q → (a ≡ b) × (r ≡ q)
  one_item (once a) (once b) r q k h j = let c = one_atom a b r q k in (ap once c.0, c.1)
  one_item (once a) (signed b g) r q k h j = let c = one_atom a b r (sign g ∷ q) k in absurd (subst EndsItem c.1 h)
  one_item (signed a g) (once b) r q k h j = let c = one_atom a b (sign g ∷ r) q k in absurd (subst EndsItem (sym c.1) j)
  one_item (signed a g) (signed b o) r q k h j =
      let c = one_atom a b (sign g ∷ r) (sign o ∷ q) k in
      let same : g ≡ o = cc (c.1) in
      let tails : r ≡ q = cc (c.1) in
      ((λ i. signed (c.0 i) (same i)), tails)

  pub one_atom : (a b : Atom) (r q : List Token) → atom_onto a r ≡ atom_onto b q → (a ≡ b) × (r ≡ q)
  one_atom (label t) (label u) r q k = let same : t ≡ u = cc (k) in (ap label same, cc (k))
  one_atom (label t) any r q k = cc
  one_atom (label t) (group f) r q k = cc
  one_atom any (label u) r q k = cc
  one_atom any any r q k = (refl, cc (k))
  one_atom any (group f) r q k = cc
  one_atom (group e) (label u) r q k = cc
  one_atom (group e) any r q k = cc
  one_atom (group e) (group f) r q k =
      let inner : onto e (closing ∷ r) ≡ onto f (closing ∷ q) = cc (k) in
      let a = one_expr e f (closing ∷ r) (closing ∷ q) inner tt tt in
      let tails : r ≡ q = cc (a.1) in
      (ap group a.0, tails)

-- the law
pub one_reading : (e f : Expr) → tokens e ≡ tokens f → e ≡ f
one_reading e f k = (one_expr e f [] [] k tt tt).0
