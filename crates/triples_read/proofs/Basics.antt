-- Small laws that several files use.
use Rattle.std.proofs.Common.{◌≡◌, ◌⊎◌, inl, inr, ℕ, List, [], ◌∷◌, ◌++◌, length, take, drop, Bool, true, false, ◌&&◌, cond, Option, Some, None, refl, sym, ◌∙◌, ap, append_assoc, arith}
use Rattle.std.specs.Prelude.{IsUtf8, nat_eq}
use Rattle.std.proofs.lemmas.Bool.Decides.{nat_tests}
use Rattle.std.specs.Str.{IsCharBoundary}
use Rattle.std.proofs.Math.Utf8.{scalar, scalars, encode, encodes}
use Rattle.std.proofs.lemmas.Str.{cons_from_encodes, IsCharBoundary-at_seam}

pub bool_cases : (b : Bool) → (b ≡ true) ⊎ (b ≡ false)
bool_cases true = inl refl
bool_cases false = inr refl

pub and_both : (a b : Bool) → a && b ≡ true → (a ≡ true) × (b ≡ true)
and_both true b h = (refl, h)
and_both false b h = absurd cc

pub no_both : (b : Bool) → b ≡ true → b ≡ false → ⊥
no_both b t f = cc

pub eqb_same : (a b : ℕ) → a ≡ b → nat_eq a b ≡ true
eqb_same a b is = grind (arith, nat_tests, is)

pub cons-tail : {a b : ℕ} {xs ys : List ℕ} → a ∷ xs ≡ b ∷ ys → xs ≡ ys
cons-tail e = cc

pub if_none : {A : Type 0} (b : Bool) (x : A) → ◌≡◌ {A = Option A} None (cond b (Some x) None) → b ≡ false
if_none true x e = absurd cc
if_none false x e = refl

pub if_some : (b : Bool) (x d : ℕ) → Some d ≡ cond b (Some x) None → (b ≡ true) × (d ≡ x)
if_some true x d e = (refl, cc)
if_some false x d e = absurd cc

pub none_some : {A : Type 0} (m : A) → ◌≡◌ {A = Option A} None (Some m) → ⊥
none_some m e = cc

-- the parts of a pair that is there
abbrev pub first_of : Option (ℕ × ℕ) → ℕ
first_of None = 0
first_of (Some p) = p.0

abbrev pub second_of : Option (ℕ × ℕ) → ℕ
second_of None = 0
second_of (Some p) = p.1

pub drop-past : (xs ys : List ℕ) → drop (length xs) (xs ++ ys) ≡ ys
drop-past [] ys = refl
drop-past (x ∷ xs) ys = drop-past xs ys

pub take-past : (xs ys : List ℕ) → take (length xs) (xs ++ ys) ≡ xs
take-past [] ys = refl
take-past (x ∷ xs) ys = ap (λ (z : List ℕ). x ∷ z) (take-past xs ys)

pub scalars-both : (xs ys : List ℕ) → scalars xs ≡ true → scalars ys ≡ true → scalars (xs ++ ys) ≡ true
scalars-both [] ys a b = b
scalars-both (x ∷ xs) ys a b =
    let both = and_both (scalar x) (scalars xs) a in
    rw (both.0, scalars-both xs ys both.1 b) refl

pub scalars-right : (xs ys : List ℕ) → scalars (xs ++ ys) ≡ true → scalars ys ≡ true
scalars-right [] ys h = h
scalars-right (x ∷ xs) ys h = scalars-right xs ys (and_both (scalar x) (scalars (xs ++ ys)) h).1

pub scalars-left : (xs ys : List ℕ) → scalars (xs ++ ys) ≡ true → scalars xs ≡ true
scalars-left [] ys h = refl
scalars-left (x ∷ xs) ys h =
    let both = and_both (scalar x) (scalars (xs ++ ys)) h in
    rw (both.0, scalars-left xs ys both.1) refl

-- what stands in front of a text is spelled by the first of its characters
pub split-encodes : (s cs rest : List ℕ) → encodes cs ≡ encodes s ++ rest → (r : List ℕ) × (cs ≡ s ++ r) × (rest ≡ encodes r)
split-encodes [] cs rest e = (cs, refl, sym e)
split-encodes (x ∷ s) cs rest e =
    let (es, prefix, behind) = cons_from_encodes cs (encodes s ++ rest) x (e ∙ append_assoc (encode x) (encodes s) rest) in
    let (r, parts, left) = split-encodes s es rest behind in
    (r, prefix ∙ ap (λ (z : List ℕ). x ∷ z) parts, left)

-- what follows a prefix of a text is a text, and begins where a character does
pub rest-utf8 : (s rest text : List ℕ) → IsUtf8 text → text ≡ encodes s ++ rest → IsUtf8 rest
rest-utf8 s rest text (cs, (ok, eq)) is =
    let (r, parts, left) = split-encodes s cs rest (eq ∙ is) in
    (r, (scalars-right s r (sym (ap scalars parts) ∙ ok), sym left))

pub seam : (s rest text : List ℕ) → IsUtf8 text → text ≡ encodes s ++ rest → IsCharBoundary text (length (encodes s))
seam s rest text utf8 is = IsCharBoundary-at_seam text (encodes s) rest is (rest-utf8 s rest text utf8 is)
