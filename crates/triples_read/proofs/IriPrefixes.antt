-- An IRIREF in front of any bytes ends at their first `>`.
use Rattle.std.proofs.Common.{◌≡◌, ◌≢◌, ◌<◌, ◌+◌, ℕ, zero, suc, List, [], ◌∷◌, ◌++◌, length, take, true, refl, sym, ◌∙◌, ap, subst, arith, inl, inr, append_assoc, length-append, get_or}
use Rattle.std.specs.Prelude.{nat_eq, IsUtf8}
use Rattle.std.specs.List.{AllByRecursion, position_or_len}
use Rattle.std.proofs.Math.Utf8.{scalars, encode, encodes}
use Rattle.std.proofs.lemmas.Str.{inside_one, encodes-append}
use Rattle.std.proofs.lemmas.Bool.{eqb-true, ne_eqb}
use Rattle.bstr.specs.Find.{Nowhere, Passes, is_byte}
use Rattle.std.proofs.lemmas.List.{append-nil}
use Rattle.triples_read.specs.Characters.{is_hex, is_iri_char}
use Rattle.triples_read.specs.Terminals.{Many, HEX}
use Rattle.triples_read.specs.Lines.{IsIriPrefix}
use Rattle.triples_read.specs.SpelledPrefixes.{Lacks}
use Rattle.triples_read.specs.Quotes.{PieceIn, IsQuoted, inner, Escape, escape_at}
use Rattle.triples_read.specs.declared.quoted.Quote.TheVariants.{Angle}
use Rattle.triples_read.proofs.Basics.{no_both, take-past, scalars-both}
use Rattle.triples_read.proofs.BodyPieces.{many-scalars}
use Rattle.triples_read.proofs.QuotedPieces.{quote_escapes}
use Rattle.triples_read.proofs.OpeningQuotes.{prefix-quoted, in_quotes, quotes_before}

lacks-both : (c : ℕ) (xs ys : List ℕ) → Lacks c xs → Lacks c ys → Lacks c (xs ++ ys)
lacks-both c [] ys a b = b
lacks-both c (x ∷ xs) ys a b = (a.0, lacks-both c xs ys a.1 b)

lacks-each : (c : ℕ) (xs : List ℕ) → ((k : ℕ) → k < length xs → get_or xs k 0 ≢ c) → Lacks c xs
lacks-each c [] each = tt
lacks-each c (x ∷ xs) each = (each 0 (omega arith), lacks-each c xs (λ k inside. each (suc k) (omega (arith, inside))))

-- another character has no byte of an ASCII one
lacks-char : (c d : ℕ) → c < 128 → d ≢ c → Lacks c (encode d)
lacks-char c d small other =
    lacks-each c (encode d) (λ k inside is.
    let low : get_or (encode d) k 0 < 128 = subst (λ (b : ℕ). b < 128) (sym is) small in
    other (inside_one d [] (encode d) k (sym (append-nil (encode d))) inside low ∙ is))

not_end : (c : ℕ) → is_iri_char c ≡ true → c ≢ 62
not_end c good is = no_both (is_iri_char c) good (ap is_iri_char is)

no_digit : (hs : List ℕ) → AllByRecursion HEX hs → Lacks 62 hs
no_digit [] all = tt
no_digit (h ∷ hs) all = ((λ is. no_both (is_hex h) all.0 (ap is_hex is)), no_digit hs all.1)

other_letter : (u n : ℕ) → u ≡ n → n ≢ 62 → u ≢ 62
other_letter u n is other e = other (sym is ∙ e)

body-lacks : (v body : List ℕ) → Many (PieceIn Angle) body v → Lacks 62 (encodes body)
body-lacks [] body m = subst (λ (z : List ℕ). Lacks 62 (encodes z)) (sym m) tt
body-lacks (c ∷ v) body (piece, rest, parts, inl one, m) =
    let own : Lacks 62 (encodes (c ∷ [])) = lacks-both 62 (encode c) [] (lacks-char 62 c (omega arith) (not_end c one.2)) tt in
    let both = lacks-both 62 (encodes piece) (encodes rest) (subst (λ (z : List ℕ). Lacks 62 (encodes z)) (sym one.0) own) (body-lacks v rest m) in
    subst (Lacks 62) (sym (ap encodes parts ∙ encodes-append piece rest)) both
body-lacks (c ∷ v) body (piece, rest, parts, inr (u, hs, sp, which, all, is, good), m) =
    let known = (quote_escapes Angle).complete piece c (u, hs, sp, which, all, is, good) in
    let letter : u ≢ 62 = elim which [
      | inl short ↦ other_letter u 117 short.0 (λ e. omega (arith, e))
      | inr long ↦ other_letter u 85 long.0 (λ e. omega (arith, e))
    ] in
    let own : Lacks 62 (92 ∷ u ∷ hs) = ((λ e. omega (arith, e)), (letter, no_digit hs all)) in
    let both = lacks-both 62 (encodes piece) (encodes rest) (subst (Lacks 62) (sym (known.2 ∙ sp)) own) (body-lacks v rest m) in
    subst (Lacks 62) (sym (ap encodes parts ∙ encodes-append piece rest)) both

-- where the bytes are cut
pub prefix-cut : (b : List ℕ) (n : ℕ) (iri : List ℕ) → IsIriPrefix b n iri → (xs : List ℕ) × (ys : List ℕ) × (v : List ℕ) × (b ≡ xs ++ 62 ∷ ys) × Lacks 62 xs × (n ≡ length (xs ++ 62 ∷ [])) × (iri ≡ encodes v) × IsUtf8 (xs ++ 62 ∷ []) × IsQuoted Angle (xs ++ 62 ∷ []) v []
prefix-cut b n iri prefix =
    let (v, tail, is, len, (body, eq, m)) = prefix-quoted b n iri prefix in
    let xs : List ℕ = 60 ∷ encodes body in
    let size : length b ≡ length (xs ++ 62 ∷ []) + length tail = ap length (eq ∙ sym (append_assoc xs (62 ∷ []) tail)) ∙ length-append (xs ++ 62 ∷ []) tail in
    let ok : scalars (in_quotes Angle body) ≡ true = scalars-both (60 ∷ body) (62 ∷ []) (many-scalars (inner Angle) (Escape Angle) (escape_at Angle) (quote_escapes Angle) v body m) refl in
    let text : encodes (in_quotes Angle body) ≡ xs ++ 62 ∷ [] = sym (append-nil (encodes (in_quotes Angle body))) ∙ quotes_before Angle body [] in
    (xs, tail, v, eq, ((λ e. omega (arith, e)), body-lacks v body m), omega (arith, len, size), is, (in_quotes Angle body, (ok, text)), (body, refl, m))

-- the first byte 62 is the one behind what lacks it
pub end-first : (xs ys : List ℕ) (k : ℕ) → Lacks 62 xs → Nowhere (Passes (is_byte 62) (xs ++ 62 ∷ ys)) 0 k → Passes (is_byte 62) (xs ++ 62 ∷ ys) k → k ≡ length xs
end-first [] ys zero none before here = refl
end-first [] ys (suc k) none before here = absurd (before 0 (omega arith) (omega arith) refl)
end-first (x ∷ xs) ys zero none before here = absurd (none.0 (eqb-true x 62 here))
end-first (x ∷ xs) ys (suc k) none before here =
    ap suc (end-first xs ys k none.1 (λ m low high is. before (suc m) (omega arith) (omega (arith, high)) is) here)

pub end-passes : (xs ys : List ℕ) → Passes (is_byte 62) (xs ++ 62 ∷ ys) (length xs)
end-passes [] ys = refl
end-passes (x ∷ xs) ys = end-passes xs ys

ends-at : (xs ys : List ℕ) → Lacks 62 xs → position_or_len (λ c. nat_eq c 62) (xs ++ 62 ∷ ys) ≡ length xs
ends-at [] ys none = refl
ends-at (x ∷ xs) ys none = rw (ne_eqb x 62 none.0, ends-at xs ys none.1) (omega arith)

pub end-found : (b xs ys : List ℕ) → b ≡ xs ++ 62 ∷ ys → Lacks 62 xs → position_or_len (λ c. nat_eq c 62) b ≡ length xs
end-found b xs ys is none = ap (position_or_len (λ c. nat_eq c 62)) is ∙ ends-at xs ys none

pub cut-there : (b xs ys : List ℕ) → b ≡ xs ++ 62 ∷ ys → take (length xs + 1) b ≡ xs ++ 62 ∷ []
cut-there b xs ys is =
    let count : length xs + 1 ≡ length (xs ++ 62 ∷ []) = sym (length-append xs (62 ∷ [])) in
    ap (λ (n : ℕ). take n b) count ∙ ap (take (length (xs ++ 62 ∷ []))) (is ∙ sym (append_assoc xs (62 ∷ []) ys)) ∙ take-past (xs ++ 62 ∷ []) ys
