-- `longest` is the length of the longest matching word.
use Rattle.std.proofs.Common.{◌≡◌, ℕ, zero, suc, ◌≤◌, ◌⊎◌, inl, inr, List, [], ◌∷◌, ◌++◌, length, refl, ap, arith, Option, None, Some, length-append}
use Rattle.std.specs.List.{AllByRecursion}
use Rattle.std.proofs.lemmas.Bool.{cases_lt}
use Rattle.path_spec.specs.Trees.{star, plus, opt, child, below, Expr, only, or, Seq, last, then, Item, once, signed, Atom, label, any, group}
use Rattle.path_spec.specs.Matches.{Word, joined, AnyWord, Then, Pieces, Matches, MatchesSeq, MatchesItem, MatchesAtom}
use Rattle.path_spec.specs.Longest.{IsLongest, greater}
use Rattle.path_expr.specs.WordLengths.{together, longest, seq_longest, item_longest, atom_longest}

-- that, and some word that isn't empty
pub record IsLong (P : Word → Type 0) (o : Option ℕ) : Type 0 where
  pub is : IsLongest P o
  pub first : List ℕ
  pub others : Word
  pub some : P (first ∷ others)

-- any number of words at least as long
copies : (P : Word → Type 0) (t : List ℕ) (w : Word) → P (t ∷ w) → (n : ℕ) → (ps : List Word) × AllByRecursion P ps × (n ≤ length (joined ps))
copies P t w p zero = ([], tt, omega arith)
copies P t w p (suc n) =
    let c = copies P t w p n in
    let l : n ≤ length (joined c.0) = c.2 in
    ((t ∷ w) ∷ c.0, (p, c.1), omega (arith, length-append w (joined c.0)))

blanks : (n : ℕ) → (w : Word) × (n ≤ length w)
blanks zero = ([], omega arith)
blanks (suc n) = let b = blanks n in let l : n ≤ length b.0 = b.1 in ([] ∷ b.0, omega arith)

then_longest : (P Q : Word → Type 0) (a b : Option ℕ) → IsLong P a → IsLong Q b → IsLongest (Then P Q) (together a b)
then_longest P Q None b h k = λ n.
    let w = h.is n in
    let l : n ≤ length w.0 = w.2 in
    (w.0 ++ (k.first ∷ k.others), (w.0, k.first ∷ k.others, w.1, k.some, refl), omega (arith, length-append w.0 (k.first ∷ k.others)))
then_longest P Q (Some m) None h k = λ n.
    let w = k.is n in
    let l : n ≤ length w.0 = w.2 in
    ((h.first ∷ h.others) ++ w.0, (h.first ∷ h.others, w.0, h.some, w.1, refl), omega (arith, length-append h.others w.0))
then_longest P Q (Some m) (Some n) h k =
    let v = h.is.0 in
    let w = k.is.0 in
    let lv : length v.0 ≡ m = v.2 in
    let lw : length w.0 ≡ n = w.2 in (
      (v.0 ++ w.0, (v.0, w.0, v.1, w.1, refl), omega (arith, length-append v.0 w.0)),
      λ x t.
          let l1 : length t.0 ≤ m = h.is.1 t.0 t.2 in
          let l2 : length t.1 ≤ n = k.is.1 t.1 t.3 in
          omega (arith, length-append t.0 t.1, ap length t.4),
    )

long_then : (P Q : Word → Type 0) (a b : Option ℕ) → IsLong P a → IsLong Q b → IsLong (Then P Q) (together a b)
long_then P Q a b h k = record {
  is = then_longest P Q a b h k;
  first = h.first;
  others = h.others ++ (k.first ∷ k.others);
  some = (h.first ∷ h.others, k.first ∷ k.others, h.some, k.some, refl);
}

either_longest : (P Q : Word → Type 0) (a b : Option ℕ) → IsLong P a → IsLong Q b → IsLongest (λ w. P w ⊎ Q w) (greater a b)
either_longest P Q None b h k = λ n. let w = h.is n in (w.0, inl w.1, w.2)
either_longest P Q (Some m) None h k = λ n. let w = k.is n in (w.0, inr w.1, w.2)
either_longest P Q (Some m) (Some n) h k = (
  elim (cases_lt m n) [
    | inl less ↦ (let w = k.is.0 in let l : length w.0 ≡ n = w.2 in (w.0, inr w.1, omega arith))
    | inr more ↦ (let w = h.is.0 in let l : length w.0 ≡ m = w.2 in (w.0, inl w.1, omega arith))
  ],
  λ x t. elim t [
    | inl p ↦ (let l : length x ≤ m = h.is.1 x p in omega arith)
    | inr q ↦ (let l : length x ≤ n = k.is.1 x q in omega arith)
  ],
)

long_either : (P Q : Word → Type 0) (a b : Option ℕ) → IsLong P a → IsLong Q b → IsLong (λ w. P w ⊎ Q w) (greater a b)
long_either P Q a b h k = record { is = either_longest P Q a b h k; first = h.first; others = h.others; some = inl h.some }

long_below : (P Q : Word → Type 0) (a b : Option ℕ) → IsLong P a → IsLong Q b → IsLong (Then P (Then AnyWord Q)) None
long_below P Q a b h k = record {
  is = λ n.
      let g = blanks n in
      let l : n ≤ length g.0 = g.1 in
      let v : Word = h.first ∷ h.others in
      let w : Word = k.first ∷ k.others in
      (v ++ (g.0 ++ w), (v, g.0 ++ w, h.some, (g.0, w, tt, k.some, refl), refl), omega (arith, length-append h.others (g.0 ++ w), length-append g.0 w));
  first = h.first;
  others = h.others ++ (k.first ∷ k.others);
  some = (h.first ∷ h.others, k.first ∷ k.others, h.some, ([], k.first ∷ k.others, tt, k.some, refl), refl);
}

long_star : (P : Word → Type 0) (a : Option ℕ) → IsLong P a → IsLong (Pieces P) None
long_star P a h = record {
  is = λ n. let c = copies P h.first h.others h.some n in (joined c.0, (c.0, c.1, refl), c.2);
  first = h.first;
  others = h.others ++ [];
  some = ((h.first ∷ h.others) ∷ [], (h.some, tt), refl);
}

long_plus : (P : Word → Type 0) (a : Option ℕ) → IsLong P a → IsLong (Then P (Pieces P)) None
long_plus P a h = record {
  is = λ n.
      let c = copies P h.first h.others h.some n in
      let l : n ≤ length (joined c.0) = c.2 in
      ((h.first ∷ h.others) ++ joined c.0, (h.first ∷ h.others, joined c.0, h.some, (c.0, c.1, refl), refl), omega (arith, length-append h.others (joined c.0)));
  first = h.first;
  others = h.others ++ [];
  some = (h.first ∷ h.others, [], h.some, ([], tt, refl), refl);
}

opt_longest : (P : Word → Type 0) (a : Option ℕ) → IsLong P a → IsLongest (λ w. (w ≡ []) ⊎ P w) a
opt_longest P None h = λ n. let w = h.is n in (w.0, inr w.1, w.2)
opt_longest P (Some m) h = (
  let w = h.is.0 in (w.0, inr w.1, w.2),
  λ x t. elim t [
    | inl e ↦ omega (arith, ap length e)
    | inr p ↦ h.is.1 x p
  ],
)

long_one : (P : List ℕ → Type 0) (t : List ℕ) → P t → IsLong (λ w. (r : List ℕ) × P r × (w ≡ r ∷ [])) (Some 1)
long_one P t p = record {
  is = ((t ∷ [], (t, p, refl), refl), λ x k. omega (arith, ap length k.2));
  first = t;
  others = [];
  some = (t, p, refl);
}

mutual
  pub long : (e : Expr) → IsLong (Matches e) (longest e)
  long (only s) = long_seq s
  long (or s e) = long_either (MatchesSeq s) (Matches e) (seq_longest s) (longest e) (long_seq s) (long e)

  long_seq : (s : Seq) → IsLong (MatchesSeq s) (seq_longest s)
  long_seq (last i) = long_item i
  long_seq (then i child s) = long_then (MatchesItem i) (MatchesSeq s) (item_longest i) (seq_longest s) (long_item i) (long_seq s)
  long_seq (then i below s) = long_below (MatchesItem i) (MatchesSeq s) (item_longest i) (seq_longest s) (long_item i) (long_seq s)

  long_item : (i : Item) → IsLong (MatchesItem i) (item_longest i)
  long_item (once a) = long_atom a
  long_item (signed a star) = long_star (MatchesAtom a) (atom_longest a) (long_atom a)
  long_item (signed a plus) = long_plus (MatchesAtom a) (atom_longest a) (long_atom a)
  long_item (signed a opt) =
      let h = long_atom a in
      record { is = opt_longest (MatchesAtom a) (atom_longest a) h; first = h.first; others = h.others; some = inr h.some }

  long_atom : (a : Atom) → IsLong (MatchesAtom a) (atom_longest a)
  long_atom (label t) = record { is = ((t ∷ [], refl, refl), λ x k. omega (arith, ap length k)); first = t; others = []; some = refl }
  long_atom any = record { is = (([] ∷ [], ([], refl), refl), λ x k. omega (arith, ap length k.1)); first = []; others = []; some = ([], refl) }
  long_atom (group e) = long e

-- the law
pub longest_is : (e : Expr) → IsLongest (Matches e) (longest e)
longest_is e = (long e).is
