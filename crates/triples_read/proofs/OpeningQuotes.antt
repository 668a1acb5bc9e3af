-- Quotes at the front, and what they mean for an IRIREF that stands there.
use Rattle.std.proofs.Common.{◌≡◌, ◌<◌, ◌+◌, ◌-◌, ℕ, List, [], ◌∷◌, ◌++◌, length, take, drop, refl, sym, ◌∙◌, ap, subst, arith, append_assoc, length-append}
use Rattle.std.proofs.Math.Utf8.{scalars, encodes}
use Rattle.std.proofs.lemmas.Str.{encode_ascii, encodes-append}
use Rattle.std.proofs.lemmas.List.{take-append-drop, length-drop}
use Rattle.triples_read.specs.Terminals.{Many}
use Rattle.triples_read.specs.SpelledPrefixes.{Prefix, IsText}
use Rattle.triples_read.specs.Lines.{IsIri, IsIriPrefix}
use Rattle.triples_read.specs.Quotes.{opening, closing, inner, Escape, escape_at, PieceIn, IsQuoted}
use Rattle.triples_read.specs.declared.quoted.Quote.{Quote}
use Rattle.triples_read.specs.declared.quoted.Quote.TheVariants.{Angle, Double}
use Rattle.triples_read.proofs.Basics.{cons-tail, take-past, scalars-right, split-encodes}
use Rattle.triples_read.proofs.BodyPieces.{body-unique}
use Rattle.triples_read.proofs.QuotedPieces.{quote_kind, quote_escapes}

-- what follows a prefix of a text is a text
pub text-rest : (b s r : List ℕ) → IsText b (s ++ r) → IsText (encodes r) r
text-rest b s r is = (refl, scalars-right s r is.1)

opening_ascii : (q : Quote) → opening q < 128
opening_ascii Angle = omega arith
opening_ascii Double = omega arith

abbrev pub in_quotes : Quote → List ℕ → List ℕ
in_quotes q body = opening q ∷ (body ++ closing q ∷ [])

quotes_encoded : (q : Quote) (body : List ℕ) → encodes (in_quotes q body) ≡ opening q ∷ (encodes body ++ closing q ∷ [])
quotes_encoded q body = rw (encode_ascii (opening q) (opening_ascii q), encodes-append body (closing q ∷ []), encode_ascii (closing q) (quote_kind q).end_ascii) refl

pub quotes_before : (q : Quote) (body rest : List ℕ) → encodes (in_quotes q body) ++ rest ≡ opening q ∷ (encodes body ++ closing q ∷ rest)
quotes_before q body rest =
    ap (λ (z : List ℕ). z ++ rest) (quotes_encoded q body) ∙ ap (λ (z : List ℕ). opening q ∷ z) (append_assoc (encodes body) (closing q ∷ []) rest)

-- quotes in front of the characters of a text
pub quoted-split : (q : Quote) (b cs v rest : List ℕ) → b ≡ encodes cs → IsQuoted q b v rest → (body : List ℕ) × (r : List ℕ) × (cs ≡ in_quotes q body ++ r) × (rest ≡ encodes r) × Many (PieceIn q) body v
quoted-split q b cs v rest is (body, eq, m) =
    let (r, parts, left) = split-encodes (in_quotes q body) cs rest (sym is ∙ eq ∙ sym (quotes_before q body rest)) in
    (body, r, parts, left, m)

pub quoted-join : (q : Quote) (b body r v : List ℕ) → b ≡ encodes (in_quotes q body ++ r) → Many (PieceIn q) body v → IsQuoted q b v (encodes r)
quoted-join q b body r v is m = (body, is ∙ encodes-append (in_quotes q body) r ∙ quotes_before q body (encodes r), m)

-- one text has one quoted part at its front
pub quoted-unique : (q : Quote) (b v w tail end : List ℕ) → IsQuoted q b v tail → IsQuoted q b w end → (v ≡ w) × (tail ≡ end)
quoted-unique q b v w tail end (body, eq, m) (other, eq', m') =
    body-unique (inner q) (Escape q) (escape_at q) (closing q) (quote_kind q) (quote_escapes q) v w (encodes body ++ closing q ∷ tail) tail end (body, refl, m) (other, cons-tail (sym eq ∙ eq'), m')

-- an IRIREF
pub iri-found : (b cs v rest text : List ℕ) → IsText b cs → text ≡ encodes v → IsQuoted Angle b v rest → Prefix (λ s. IsIri s text) cs rest
iri-found b cs v rest text is text_is quoted =
    let (body, r, parts, left, m) = quoted-split Angle b cs v rest is.0 quoted in
    (in_quotes Angle body, r, parts, (left, scalars-right (in_quotes Angle body) r (sym (ap scalars parts) ∙ is.1)), (v, (body, refl, m), text_is))

pub iri-whole : (b s r iri : List ℕ) → b ≡ encodes (s ++ r) → IsIri s iri → (v : List ℕ) × (iri ≡ encodes v) × IsQuoted Angle b v (encodes r)
iri-whole b s r iri is (v, (body, sp, m), iri_is) =
    (v, iri_is, quoted-join Angle b body r v (is ∙ ap (λ (z : List ℕ). encodes (z ++ r)) sp) m)

pub prefix-quoted : (b : List ℕ) (n : ℕ) (iri : List ℕ) → IsIriPrefix b n iri → (v : List ℕ) × (tail : List ℕ) × (iri ≡ encodes v) × (n + length tail ≡ length b) × IsQuoted Angle b v tail
prefix-quoted b n iri (le, s, prefix, (v, (body, sp, m), is)) =
    let whole : b ≡ encodes (in_quotes Angle body) ++ drop n b = sym (take-append-drop n b) ∙ ap (λ (z : List ℕ). z ++ drop n b) (prefix ∙ ap encodes sp) in
    (v, drop n b, is, omega (arith, le, length-drop n b), (body, whole ∙ quotes_before Angle body (drop n b), m))

pub quoted-prefix : (b v tail : List ℕ) → IsQuoted Angle b v tail → IsIriPrefix b (length b - length tail) (encodes v)
quoted-prefix b v tail (body, eq, m) =
    let text : List ℕ = encodes (in_quotes Angle body) in
    let whole : b ≡ text ++ tail = eq ∙ sym (quotes_before Angle body tail) in
    let size : length b ≡ length text + length tail = ap length whole ∙ length-append text tail in
    let count : length b - length tail ≡ length text = omega (arith, size) in
    (omega arith, in_quotes Angle body, ap (λ (n : ℕ). take n b) count ∙ ap (take (length text)) whole ∙ take-past text tail, (v, (body, refl, m), refl))

-- the same in a prefix of the bytes
pub quoted-within : (b prefix more v rest : List ℕ) → b ≡ prefix ++ more → IsQuoted Angle prefix v rest → IsIriPrefix b (length prefix - length rest) (encodes v)
quoted-within b prefix more v rest is (body, eq, m) =
    let whole : b ≡ 60 ∷ (encodes body ++ 62 ∷ (rest ++ more)) = is ∙ ap (λ (z : List ℕ). z ++ more) eq ∙ ap (λ (z : List ℕ). 60 ∷ z) (append_assoc (encodes body) (62 ∷ rest) more) in
    let size : length b ≡ length prefix + length more = ap length is ∙ length-append prefix more in
    let count : length b - length (rest ++ more) ≡ length prefix - length rest = omega (arith, size, length-append rest more) in
    subst (λ (n : ℕ). IsIriPrefix b n (encodes v)) count (quoted-prefix b v (rest ++ more) (body, whole, m))
