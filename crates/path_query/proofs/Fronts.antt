-- What stands at the front of a text: a mark that is found there, or a label where none is.
use Rattle.std.proofs.Common.{◌≡◌, ℕ, ◌⊎◌, inl, inr, true, false, Bool, cond, List, refl, sym, ap, ◌∙◌, Option, None, Some}
use Rattle.std.specs.Prelude.{option_map}
use Rattle.std.proofs.lemmas.Option.{some_pair_parts}

abbrev pub IsFront : {Token : Type 0} → (List ℕ → Token) → Option (Token × List ℕ) → Token → List ℕ → Type 0
IsFront {Token} lab found t rest = (found ≡ Some (t, rest)) ⊎ ((u : List ℕ) × (t ≡ lab u) × (found ≡ None))

-- where no mark is found it is a label
pub front_label : {Token : Type 0} (lab : List ℕ → Token) (found : Option (Token × List ℕ)) (t : Token) (rest : List ℕ) → IsFront lab found t rest → found ≡ None
    → (u : List ℕ) × (t ≡ lab u)
front_label {Token} lab found t rest (inl e) none = let both : ◌≡◌ {A = Option (Token × List ℕ)} None (Some (t, rest)) = sym none ∙ e in cc
front_label lab found t rest (inr (u, is, e)) none = (u, is)

-- two are one, if labels are
pub front_one : {Token : Type 0} (lab : List ℕ → Token) (found : Option (Token × List ℕ)) (t u : Token) (r q : List ℕ) → IsFront lab found t r → IsFront lab found u q
    → (found ≡ None → (t ≡ u) × (r ≡ q)) → (t ≡ u) × (r ≡ q)
front_one {Token} lab found t u r q (inl a) (inl b) labels =
    let both : ◌≡◌ {A = Option (Token × List ℕ)} (Some (t, r)) (Some (u, q)) = sym a ∙ b in some_pair_parts t u r q both
front_one lab found t u r q (inl a) (inr (w, is, none)) labels = labels none
front_one lab found t u r q (inr (v, is, none)) k labels = labels none

-- which way a test went
pub chosen : {X : Type 0} (c : Bool) (x o y : Option X) → cond c x o ≡ y → ((c ≡ true) × (x ≡ y)) ⊎ ((c ≡ false) × (o ≡ y))
chosen true x o y e = inl (refl, e)
chosen false x o y e = inr (refl, e)

pub mapped : {Token : Type 0} (o : Option Token) (bs : List ℕ) (t : Token) (rest : List ℕ) → option_map {U = Token × List ℕ} (λ u. (u, bs)) o ≡ Some (t, rest)
    → (o ≡ Some t) × (bs ≡ rest)
mapped None bs t rest e = cc
mapped (Some u) bs t rest e = let p = some_pair_parts u t bs rest e in (ap Some p.0, p.1)
