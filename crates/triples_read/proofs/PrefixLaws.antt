-- One byte in front of a text, and blanks in front of a part.
use Rattle.std.proofs.Common.{◌≡◌, ◌<◌, ℕ, List, [], ◌∷◌, ◌++◌, drop, length, true, false, refl, sym, ◌∙◌, ap, subst, Option, Some, None, Result, Ok, Err}
use Rattle.std.specs.Prelude.{IfOk, IfSome, IsUtf8, MatchOption}
use Rattle.std.specs.Str.{IsCharBoundary}
use Rattle.std.proofs.Math.Utf8.{scalars, encodes}
use Rattle.std.proofs.lemmas.Str.{encode_ascii}
use Rattle.std.proofs.lemmas.Bool.{eqb-true}
use Rattle.graph_spec.specs.Words.{is_blank}
use Rattle.triples_read.specs.Terminals.{Blanks}
use Rattle.triples_read.specs.ByteReaders.{past_blanks, starts_with}
use Rattle.triples_read.specs.SpelledPrefixes.{IsText}
use Rattle.triples_read.proofs.Basics.{scalars-right, split-encodes, seam, rest-utf8, eqb_same}
use Rattle.triples_read.proofs.BlankLaws.{skip-whole}

pub ok-some-map : {A E : Type 0} (P Q : A → Type 0) → ((a : A) → P a → Q a) → (r : Result (Option A) E) → IfOk r (λ o. IfSome o P) → IfOk r (λ o. IfSome o Q)
ok-some-map P Q f (Ok (Some a)) h = f a h
ok-some-map P Q f (Ok None) h = h
ok-some-map P Q f (Err e) h = h

pub starts-cons : (c : ℕ) (b behind : List ℕ) → starts_with c b ≡ true → behind ≡ drop 1 b → b ≡ c ∷ behind
starts-cons c [] behind e is = absurd cc
starts-cons c (x ∷ xs) behind e is = ap (λ (z : ℕ). z ∷ xs) (eqb-true x c e) ∙ ap (λ (z : List ℕ). c ∷ z) (sym is)

pub starts-same : (c : ℕ) (b x : List ℕ) → b ≡ c ∷ x → starts_with c b ≡ true
starts-same c b x is = ap (starts_with c) is ∙ eqb_same c c refl

-- an ASCII character at the front ends where a character does
pub byte-boundary : (c : ℕ) (text : List ℕ) → c < 128 → IsUtf8 text → starts_with c text ≡ true → IsCharBoundary text 1
byte-boundary c text small utf8 e =
    let one : encodes (c ∷ []) ≡ c ∷ [] = rw (encode_ascii c small) refl in
    let prefix = starts-cons c text (drop 1 text) e refl in
    subst (IsCharBoundary text) (ap length one) (seam (c ∷ []) (drop 1 text) text utf8 (prefix ∙ ap (λ (z : List ℕ). z ++ drop 1 text) (sym one)))

pub behind-utf8 : (c : ℕ) (text behind : List ℕ) → c < 128 → IsUtf8 text → text ≡ c ∷ behind → IsUtf8 behind
behind-utf8 c text behind small utf8 is =
    let one : encodes (c ∷ []) ++ behind ≡ c ∷ behind = rw (encode_ascii c small) refl in
    rest-utf8 (c ∷ []) behind text utf8 (is ∙ sym one)

pub match-map : {A : Type 0} (M N : Type 0) (P Q : A → Type 0) (r : Option A) → (M → N) → ((a : A) → P a → Q a) → MatchOption r M P → MatchOption r N Q
match-map M N P Q None f g h = f h
match-map M N P Q (Some a) f g h = g a h

-- an ASCII character in front of a text is a byte in front of its bytes
pub first-byte : (c : ℕ) (b x : List ℕ) → c < 128 → b ≡ encodes (c ∷ x) → b ≡ c ∷ encodes x
first-byte c b x small is = is ∙ rw (encode_ascii c small) refl

pub behind-byte : (c : ℕ) (b behind cs : List ℕ) → c < 128 → b ≡ c ∷ behind → IsText b cs → (r : List ℕ) × (cs ≡ c ∷ r) × IsText behind r
behind-byte c b behind cs small eq is =
    let one : encodes (c ∷ []) ++ behind ≡ c ∷ behind = rw (encode_ascii c small) refl in
    let (r, parts, left) = split-encodes (c ∷ []) cs behind (sym is.0 ∙ eq ∙ sym one) in
    (r, parts, (left, scalars-right (c ∷ []) r (sym (ap scalars parts) ∙ is.1)))

-- a part that begins with an ASCII character other than a blank
abbrev pub Starts : List ℕ → Type 0
Starts s = (c : ℕ) × (x : List ℕ) × (s ≡ c ∷ x) × (c < 128) × (is_blank c ≡ false)

-- the blanks in front of such a part are skipped
pub skip-to : (bytes cs gap s rest : List ℕ) → IsText bytes cs → cs ≡ gap ++ (s ++ rest) → Blanks gap → Starts s → IsText (past_blanks bytes) (s ++ rest)
skip-to bytes cs gap s rest is parts blanks (c, x, sp, small, other) =
    let begin : s ++ rest ≡ c ∷ (x ++ rest) = ap (λ (z : List ℕ). z ++ rest) sp in
    let whole : bytes ≡ encodes (gap ++ c ∷ (x ++ rest)) = is.0 ∙ ap encodes (parts ∙ ap (λ (z : List ℕ). gap ++ z) begin) in
    (skip-whole bytes gap c (x ++ rest) whole blanks small other ∙ ap encodes (sym begin), scalars-right gap (s ++ rest) (sym (ap scalars parts) ∙ is.1))
