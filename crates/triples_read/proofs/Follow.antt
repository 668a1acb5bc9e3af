-- What may follow a blank node label or a language tag in a line ends it.
use Rattle.std.proofs.Common.{◌≡◌, ◌≢◌, ◌<◌, arith, ℕ, List, [], ◌∷◌, ◌++◌, true, false, refl, sym, subst, inl, inr}
use Rattle.std.proofs.Math.Utf8.{encodes}
use Rattle.std.proofs.lemmas.Str.{encode_ascii}
use Rattle.graph_spec.specs.Words.{is_blank}
use Rattle.triples_read.specs.Characters.{is_letter_or_digit}
use Rattle.triples_read.specs.Terminals.{Blanks, Comment, IRIREF}
use Rattle.triples_read.specs.SpelledPrefixes.{EndsLabel, EndsTag}
use Rattle.triples_read.specs.LineRests.{AfterObject}
use Rattle.triples_read.proofs.BlankLaws.{blank_is}

ends-blank : (b : ℕ) (x : List ℕ) → is_blank b ≡ true → EndsLabel (b ∷ x)
ends-blank b x h = elim (blank_is b h) [ inl e ↦ subst (λ (z : ℕ). EndsLabel (z ∷ x)) (sym e) refl | inr e ↦ subst (λ (z : ℕ). EndsLabel (z ∷ x)) (sym e) refl ]

-- a dot, and then nothing, a blank or a comment
ends-dot : (after comment : List ℕ) → Blanks after → Comment comment → EndsLabel (46 ∷ (after ++ comment))
ends-dot [] comment blanks (inl none) = subst (λ (z : List ℕ). EndsLabel (46 ∷ z)) (sym none) refl
ends-dot [] comment blanks (inr (text, is)) = subst (λ (z : List ℕ). EndsLabel (46 ∷ z)) (sym is) refl
ends-dot (b ∷ after) comment blanks rest =
    elim (blank_is b blanks.0.1) [
      | inl e ↦ subst (λ (z : ℕ). EndsLabel (46 ∷ z ∷ (after ++ comment))) (sym e) refl
      | inr e ↦ subst (λ (z : ℕ). EndsLabel (46 ∷ z ∷ (after ++ comment))) (sym e) refl
    ]

pub object-ends : (gap after comment : List ℕ) → Blanks gap → Blanks after → Comment comment → EndsLabel (gap ++ 46 ∷ (after ++ comment))
object-ends [] after comment g a c = ends-dot after comment a c
object-ends (b ∷ gap) after comment g a c = ends-blank b (gap ++ 46 ∷ (after ++ comment)) g.0.1

pub subject-ends : (gap predicate v rest : List ℕ) → Blanks gap → IRIREF predicate v → EndsLabel (gap ++ (predicate ++ rest))
subject-ends [] predicate v rest g (body, is, m) = subst (λ (z : List ℕ). EndsLabel (z ++ rest)) (sym is) refl
subject-ends (b ∷ gap) predicate v rest g p = ends-blank b (gap ++ (predicate ++ rest)) g.0.1

pub label-ends : (r : List ℕ) → AfterObject r → EndsLabel r
label-ends r (gap, after, comment, parts, g, a, c) = subst EndsLabel (sym parts) (object-ends gap after comment g a c)

ends-byte : (c : ℕ) (x : List ℕ) → c < 128 → is_letter_or_digit c ≡ false → c ≢ 45 → EndsTag (encodes (c ∷ x))
ends-byte c x small other dash = rw (encode_ascii c small) (other, dash)

tag_blank : (b : ℕ) (x : List ℕ) → is_blank b ≡ true → EndsTag (encodes (b ∷ x))
tag_blank b x h =
    elim (blank_is b h) [
      | inl e ↦ subst (λ (z : ℕ). EndsTag (encodes (z ∷ x))) (sym e) (ends-byte 32 x (omega arith) refl (λ n. omega (arith, n)))
      | inr e ↦ subst (λ (z : ℕ). EndsTag (encodes (z ∷ x))) (sym e) (ends-byte 9 x (omega arith) refl (λ n. omega (arith, n)))
    ]

tag_gap : (gap rest : List ℕ) → Blanks gap → EndsTag (encodes (gap ++ 46 ∷ rest))
tag_gap [] rest g = ends-byte 46 rest (omega arith) refl (λ n. omega (arith, n))
tag_gap (b ∷ gap) rest g = tag_blank b (gap ++ 46 ∷ rest) g.0.1

pub tag-ends : (r : List ℕ) → AfterObject r → EndsTag (encodes r)
tag-ends r (gap, after, comment, parts, g, a, c) = subst (λ (z : List ℕ). EndsTag (encodes z)) (sym parts) (tag_gap gap (after ++ comment) g)
