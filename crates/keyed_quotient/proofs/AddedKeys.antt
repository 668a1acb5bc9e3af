-- Keys that become those of further blocks, one after another.
use Rattle.std.proofs.Common.{◌≡◌, ◌≢◌, ℕ, zero, suc, ◌+◌, ◌<◌, ◌≤◌, List, [], ◌∷◌, length, Some, slice_get, slice_set, refl, sym, ◌∙◌, ap, subst, arith, inl, inr}
use Rattle.std.specs.List.{zip}
use Rattle.std.proofs.lemmas.Bool.{cases_lt}
use Rattle.std.proofs.lemmas.Option.{slice_get_within}
use Rattle.keyed_quotient.proofs.Numbered.{same_some}
use Rattle.keyed_quotient.specs.Numberings.{Numbering, Leads, Gives, AreApart, GivenBelow}

pub set_here : (xs : List ℕ) (i v : ℕ) → i < length xs → slice_get (slice_set xs i v) i ≡ Some v
set_here [] i v h = absurd (omega (arith, h))
set_here (x ∷ xs) zero v h = refl
set_here (x ∷ xs) (suc i) v h = set_here xs i v (omega (arith, h))

pub set_there : (xs : List ℕ) (i v j : ℕ) → j ≢ i → slice_get (slice_set xs i v) j ≡ slice_get xs j
set_there [] i v j d = refl
set_there (x ∷ xs) zero v zero d = absurd (d refl)
set_there (x ∷ xs) zero v (suc j) d = refl
set_there (x ∷ xs) (suc i) v zero d = refl
set_there (x ∷ xs) (suc i) v (suc j) d = set_there xs i v j (λ e. d (ap suc e))

pub set_length : (xs : List ℕ) (i v : ℕ) → length (slice_set xs i v) ≡ length xs
set_length [] i v = refl
set_length (x ∷ xs) zero v = refl
set_length (x ∷ xs) (suc i) v = ap suc (set_length xs i v)

-- the block has the key
pub given_here : (old new : Numbering) (b : ℕ) (key : List ℕ) → length old.table ≤ length old.block_of → b < length old.number_of → Gives key b old new → (k : ℕ) × Leads new k b key
given_here old new b key fits span g =
    let within = slice_get_within old.table g.k key g.key_is in (
      g.k,
      record {
        number = ap (λ (xs : List ℕ). slice_get xs b) g.number_of ∙ set_here old.number_of b g.k span;
        block = ap (λ (xs : List ℕ). slice_get xs g.k) g.block_of ∙ set_here old.block_of g.k b (omega (arith, within, fits));
        key_is = ap (λ (xs : List (List ℕ)). slice_get xs g.k) g.table ∙ g.key_is;
      },
    )

-- other blocks keep their keys
pub given_there : (old new : Numbering) (b k c : ℕ) (key other : List ℕ) → Gives key b old new → c ≢ b → other ≢ key → Leads old k c other → Leads new k c other
given_there old new b k c key other g apart differ l =
    let numbers : k ≢ g.k = λ e. differ (some_same other key (sym l.key_is ∙ ap (slice_get old.table) e ∙ g.key_is)) in
    record {
      number = ap (λ (xs : List ℕ). slice_get xs c) g.number_of ∙ set_there old.number_of b g.k c apart ∙ l.number;
      block = ap (λ (xs : List ℕ). slice_get xs k) g.block_of ∙ set_there old.block_of g.k b k numbers ∙ l.block;
      key_is = ap (λ (xs : List (List ℕ)). slice_get xs k) g.table ∙ l.key_is;
    } where
      some_same : (x y : List ℕ) → Some x ≡ Some y → x ≡ y
      some_same x y e = cc

pub given_none : (es : List (ℕ × List ℕ)) (t : Numbering) → GivenBelow es 0 t t
given_none es t = record {
  table = refl;
  fits = refl;
  span = refl;
  given = λ j b key h e. absurd (omega (arith, h));
  kept = λ k b key l none. l;
}

-- all entries are given
pub given_all : (es : List (ℕ × List ℕ)) (i : ℕ) (old now : Numbering) → length es ≤ i → GivenBelow es i old now → GivenBelow es (length es) old now
given_all es i old now all w = record {
  table = w.table;
  fits = w.fits;
  span = w.span;
  given = λ j b key h e. w.given j b key (omega (arith, h, all)) e;
  kept = λ k b key l none. w.kept k b key l (λ j c x h e. none j c x (slice_get_within es j (c, x) e) e);
}

pub zip_length : (blocks : List ℕ) (keys : List (List ℕ)) → length (zip blocks keys) ≤ length keys
zip_length [] keys = omega arith
zip_length (b ∷ blocks) [] = omega arith
zip_length (b ∷ blocks) (k ∷ keys) = (let rest = zip_length blocks keys in omega (arith, rest))

entry_same : (es : List (ℕ × List ℕ)) (i b c : ℕ) (key x : List ℕ) → slice_get es i ≡ Some (b, key) → slice_get es i ≡ Some (c, x) → (b ≡ c) × (key ≡ x)
entry_same es i b c key x e f =
    let same = same_some {X = ℕ × List ℕ} (b, key) (c, x) (sym e ∙ f) in
    (ap (λ (p : ℕ × List ℕ). p.0) same, ap (λ (p : ℕ × List ℕ). p.1) same)

pub given_next : (es : List (ℕ × List ℕ)) (i b : ℕ) (key : List ℕ) (old now new : Numbering) → AreApart es → slice_get es i ≡ Some (b, key) → length old.table ≤ length old.block_of
    → b < length old.number_of → GivenBelow es i old now → Gives key b now new → GivenBelow es (i + 1) old new
given_next es i b key old now new apart here fits span w g =
    let table = ap (λ (xs : List (List ℕ)). length xs) w.table in
    let both = w.fits in
    let wide = w.span in
    record {
      table = g.table ∙ w.table;
      fits = ap (λ (xs : List ℕ). length xs) g.block_of ∙ set_length now.block_of g.k b ∙ w.fits;
      span = ap (λ (xs : List ℕ). length xs) g.number_of ∙ set_length now.number_of b g.k ∙ w.span;
      given = λ j c x h e. elim (cases_lt j i) [
        | inl before ↦
            (let l = w.given j c x before e in (
              l.0,
              given_there now new b l.0 c key x g
                  (λ same. (let f : i ≡ j = apart.blocks i j b key x here (subst (λ (m : ℕ). slice_get es j ≡ Some (m, x)) same e) in omega (arith, before, f)))
                  (λ same. (let f : i ≡ j = apart.keys i j b c key here (subst (λ (y : List ℕ). slice_get es j ≡ Some (c, y)) same e) in omega (arith, before, f)))
                  l.1,
            ))
        | inr past ↦
            (let at_i : j ≡ i = omega (arith, h, past) in
            let same = entry_same es i b c key x here (ap (slice_get es) (sym at_i) ∙ e) in
            subst (λ (m : ℕ). (k : ℕ) × Leads new k m x) same.0
            (subst (λ (y : List ℕ). (k : ℕ) × Leads new k b y) same.1 (given_here now new b key (omega (arith, table, both, fits)) (omega (arith, wide, span)) g)))
      ];
      kept = λ k c x l none.
          let at_i = none i b key (omega arith) here in
          given_there now new b k c key x g (λ e. at_i.0 (sym e)) (λ e. at_i.1 (sym e)) (w.kept k c x l (λ j a y h e. none j a y (omega (arith, h)) e));
    }
