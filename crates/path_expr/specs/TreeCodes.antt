-- Trees are told apart by their codes.
use Rattle.std.specs.Prelude.{◌≡◌, ◌≢◌, ℕ, List, refl}
use Rattle.std.proofs.Common.{ap, arith}
use base.Stored.{Gv, gnil, gnum, gcons, Coded, coded_ℕ, coded_list}
use Rattle.path_spec.specs.Trees.{Sign, star, plus, opt, Sep, child, below, Expr, only, or, Seq, last, then, Item, once, signed, Atom, label, any, group}

abbrev head : Gv → Gv
head gnil = gnil
head (gnum n) = gnil
head (gcons a b) = a

abbrev tail : Gv → Gv
tail gnil = gnil
tail (gnum n) = gnil
tail (gcons a b) = b

apart : (m n : ℕ) {a b : Gv} → gcons (gnum m) a ≡ gcons (gnum n) b → m ≢ n → ⊥
apart m n p other = other (cc)

abbrev coded_text : Coded (List ℕ)
coded_text = coded_list coded_ℕ

abbrev sign_code : Sign → Gv
sign_code star = gnum 0
sign_code plus = gnum 1
sign_code opt = gnum 2

sign_inj : (x y : Sign) → sign_code x ≡ sign_code y → x ≡ y
sign_inj star star p = refl
sign_inj star plus p = cc
sign_inj star opt p = cc
sign_inj plus star p = cc
sign_inj plus plus p = refl
sign_inj plus opt p = cc
sign_inj opt star p = cc
sign_inj opt plus p = cc
sign_inj opt opt p = refl

abbrev sep_code : Sep → Gv
sep_code child = gnum 0
sep_code below = gnum 1

sep_inj : (x y : Sep) → sep_code x ≡ sep_code y → x ≡ y
sep_inj child child p = refl
sep_inj child below p = cc
sep_inj below child p = cc
sep_inj below below p = refl

abbrev mutual
  -- the code of a tree: which of its kind it is, and then the codes of its parts
  pub expr_code : Expr → Gv
  expr_code (only s) = gcons (gnum 0) (seq_code s)
  expr_code (or s e) = gcons (gnum 1) (gcons (seq_code s) (expr_code e))

  pub seq_code : Seq → Gv
  seq_code (last i) = gcons (gnum 0) (item_code i)
  seq_code (then i p s) = gcons (gnum 1) (gcons (item_code i) (gcons (sep_code p) (seq_code s)))

  pub item_code : Item → Gv
  item_code (once a) = gcons (gnum 0) (atom_code a)
  item_code (signed a s) = gcons (gnum 1) (gcons (atom_code a) (sign_code s))

  pub atom_code : Atom → Gv
  atom_code (label t) = gcons (gnum 0) (coded_text.code t)
  atom_code any = gcons (gnum 1) gnil
  atom_code (group e) = gcons (gnum 2) (expr_code e)

mutual
  -- trees with one code are the same
  pub expr_inj : (x y : Expr) → expr_code x ≡ expr_code y → x ≡ y
  expr_inj (only s) (only r) p = ap only (seq_inj s r (ap tail p))
  expr_inj (only s) (or r e) p = absurd (apart 0 1 p (omega arith))
  expr_inj (or s e) (only r) p = absurd (apart 1 0 p (omega arith))
  expr_inj (or s e) (or r f) p = λ i. or (seq_inj s r (ap (λ g. head (tail g)) p) i) (expr_inj e f (ap (λ g. tail (tail g)) p) i)

  seq_inj : (x y : Seq) → seq_code x ≡ seq_code y → x ≡ y
  seq_inj (last i) (last j) p = ap last (item_inj i j (ap tail p))
  seq_inj (last i) (then j q s) p = absurd (apart 0 1 p (omega arith))
  seq_inj (then i o r) (last j) p = absurd (apart 1 0 p (omega arith))
  seq_inj (then i o r) (then j q s) p =
      λ k. then (item_inj i j (ap (λ g. head (tail g)) p) k) (sep_inj o q (ap (λ g. head (tail (tail g))) p) k)
      (seq_inj r s (ap (λ g. tail (tail (tail g))) p) k)

  item_inj : (x y : Item) → item_code x ≡ item_code y → x ≡ y
  item_inj (once a) (once b) p = ap once (atom_inj a b (ap tail p))
  item_inj (once a) (signed b s) p = absurd (apart 0 1 p (omega arith))
  item_inj (signed a r) (once b) p = absurd (apart 1 0 p (omega arith))
  item_inj (signed a r) (signed b s) p = λ i. signed (atom_inj a b (ap (λ g. head (tail g)) p) i) (sign_inj r s (ap (λ g. tail (tail g)) p) i)

  atom_inj : (x y : Atom) → atom_code x ≡ atom_code y → x ≡ y
  atom_inj (label t) (label u) p = ap label (coded_text.inj t u (ap tail p))
  atom_inj (label t) any p = absurd (apart 0 1 p (omega arith))
  atom_inj (label t) (group e) p = absurd (apart 0 2 p (omega arith))
  atom_inj any (label u) p = absurd (apart 1 0 p (omega arith))
  atom_inj any any p = refl
  atom_inj any (group e) p = absurd (apart 1 2 p (omega arith))
  atom_inj (group d) (label u) p = absurd (apart 2 0 p (omega arith))
  atom_inj (group d) any p = absurd (apart 2 1 p (omega arith))
  atom_inj (group d) (group e) p = ap group (expr_inj d e (ap tail p))

-- expressions are stored by the codes of their trees
abbrev pub coded_tree : Coded Expr
coded_tree = record { code = expr_code; inj = expr_inj }
