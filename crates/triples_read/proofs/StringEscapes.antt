-- The escapes of a string: ECHAR and UCHAR.
use Rattle.std.proofs.Common.{◌≡◌, ◌<◌, ◌≤◌, ℕ, List, [], ◌∷◌, ◌++◌, length, true, refl, sym, ◌∙◌, ap, arith, Some, None, Option, inl, inr}
use Rattle.std.proofs.Math.Utf8.{scalars, encodes, low_scalar}
use Rattle.std.proofs.lemmas.Str.{encode_ascii}
use Rattle.std.proofs.lemmas.Bool.{cases_lt}
use Rattle.std.proofs.lemmas.Bool.Decides.{nat_tests}
use Rattle.triples_read.specs.Characters.{is_string_char}
use Rattle.triples_read.specs.Terminals.{escape_of}
use Rattle.triples_read.specs.ByteReaders.{uchar_at, escape_or, string_escape_at}
use Rattle.triples_read.specs.Quotes.{StringEscape}
use Rattle.triples_read.proofs.Basics.{cons-tail, first_of, second_of}
use Rattle.triples_read.proofs.BodyPieces.{Escapes, Kind}
use Rattle.triples_read.proofs.Uchars.{uchar_escapes}

wide_none : (x : ℕ) → 128 ≤ x → escape_of x ≡ None
wide_none x large = grind (arith, nat_tests)

none_not_some : (c : ℕ) (o : Option ℕ) → o ≡ Some c → o ≡ None → ⊥
none_not_some c o some none = cc

echar_small : (x c : ℕ) → escape_of x ≡ Some c → x < 128
echar_small x c e = elim (cases_lt x 128) [ inl small ↦ small | inr large ↦ absurd (none_not_some c (escape_of x) e (wide_none x large)) ]

echar_ascii : (x c : ℕ) → escape_of x ≡ Some c → encodes (92 ∷ x ∷ []) ≡ 92 ∷ x ∷ []
echar_ascii x c e = rw (encode_ascii 92 (omega arith), encode_ascii x (echar_small x c e)) refl

sound-of : (x : ℕ) (bs : List ℕ) (c n : ℕ) (o : Option ℕ) → escape_of x ≡ o → escape_or o (uchar_at (x ∷ bs)) ≡ Some (c, n) → (s : List ℕ) × (rest : List ℕ) × (92 ∷ x ∷ bs ≡ s ++ rest) × (n ≡ length s) × StringEscape s c × (encodes s ≡ s)
sound-of x bs c n (Some d) is e =
    (92 ∷ x ∷ [], bs, refl, sym (ap second_of e), inl (x, refl, is ∙ ap Some (ap first_of e)), echar_ascii x d is)
sound-of x bs c n None is e =
    let (s, rest, parts, len, esc, plain) = uchar_escapes.sound (x ∷ bs) c n e in
    (s, rest, parts, len, inr esc, plain)

string-sound : (bs : List ℕ) (c n : ℕ) → string_escape_at bs ≡ Some (c, n) → (s : List ℕ) × (rest : List ℕ) × (92 ∷ bs ≡ s ++ rest) × (n ≡ length s) × StringEscape s c × (encodes s ≡ s)
string-sound [] c n e = absurd cc
string-sound (x ∷ bs) c n e = sound-of x bs c n (escape_of x) refl e

string-text : (s : List ℕ) (c : ℕ) → StringEscape s c → scalars s ≡ true
string-text s c (inl (x, sp, is)) = rw (sp, low_scalar 92 (omega arith), low_scalar x (omega (arith, echar_small x c is))) refl
string-text s c (inr u) = uchar_escapes.text s c u

string-complete : (s : List ℕ) (c : ℕ) → StringEscape s c → (t : List ℕ) × (s ≡ 92 ∷ t) × (encodes s ≡ s) × ((rest : List ℕ) → string_escape_at (t ++ rest) ≡ Some (c, length s))
string-complete s c (inl (x, sp, is)) =
    (x ∷ [], sp, ap encodes sp ∙ echar_ascii x c is ∙ sym sp, λ rest. ap (λ (o : Option ℕ). escape_or o (uchar_at (x ∷ rest))) is ∙ ap (λ (z : List ℕ). Some (c, length z)) (sym sp))
string-complete s c (inr (u, hs, sp, inl short, all, is, good)) =
    let known = uchar_escapes.complete s c (u, hs, sp, inl short, all, is, good) in
    let head : known.0 ≡ 117 ∷ hs = cons-tail (sym known.1 ∙ sp) ∙ ap (λ (z : ℕ). z ∷ hs) short.0 in
    (known.0, known.1, known.2, λ rest. ap (λ (z : List ℕ). string_escape_at (z ++ rest)) head ∙ ap (λ (z : List ℕ). uchar_at (z ++ rest)) (sym head) ∙ known.3 rest)
string-complete s c (inr (u, hs, sp, inr long, all, is, good)) =
    let known = uchar_escapes.complete s c (u, hs, sp, inr long, all, is, good) in
    let head : known.0 ≡ 85 ∷ hs = cons-tail (sym known.1 ∙ sp) ∙ ap (λ (z : ℕ). z ∷ hs) long.0 in
    (known.0, known.1, known.2, λ rest. ap (λ (z : List ℕ). string_escape_at (z ++ rest)) head ∙ ap (λ (z : List ℕ). uchar_at (z ++ rest)) (sym head) ∙ known.3 rest)

pub string_escapes : Escapes StringEscape string_escape_at
string_escapes = record { sound = string-sound; text = string-text; complete = string-complete }

string_wide : (c : ℕ) → 128 ≤ c → is_string_char c ≡ true
string_wide c large = grind (arith, nat_tests)

pub string_kind : Kind is_string_char 34
string_kind = record { no_escape = refl; no_end = refl; end_ascii = omega arith; end_other = λ e. cc; wide = string_wide }
