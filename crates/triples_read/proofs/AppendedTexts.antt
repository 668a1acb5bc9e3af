-- What is appended to a text, character by character.
use Rattle.std.proofs.Common.{◌≡◌, ℕ, List, [], ◌∷◌, ◌++◌, refl, sym, ◌∙◌, ap, append_assoc, Result, Ok, Err, cond, arith}
use Rattle.std.specs.Prelude.{OnOk, IsUtf8}
use Rattle.std.specs.Result.{is_ok}
use Rattle.std.specs.Str.{chars}
use Rattle.std.specs.List.{flat_map}
use Rattle.std.proofs.Math.Utf8.{encode, encodes}
use Rattle.std.proofs.lemmas.Str.{encode_ascii, encodes-append, cons_from_encodes, encodes-chars}
use Rattle.std.proofs.lemmas.List.{append-nil}
use Rattle.std.proofs.lemmas.List.Concat.{flat_map-cons}
use Rattle.triples_read.specs.Quotes.{opening, closing}
use Rattle.triples_read.specs.declared.quoted.Quote.{Quote}
use Rattle.triples_read.proofs.LabelEnds.{no_chars}

-- what is left would complete the text
abbrev pub WrittenSoFar : (ℕ → List ℕ) → List ℕ → List ℕ → List ℕ → List ℕ → Type 0
WrittenSoFar f text rest old new = (cs : List ℕ) → text ≡ encodes cs → (r : List ℕ) × (rest ≡ encodes r) × (new ++ encodes (flat_map f r) ≡ old ++ encodes (flat_map f cs))

pub written-on : (f : ℕ → List ℕ) (text rest after old new newer : List ℕ) (c : ℕ) → WrittenSoFar f text rest old new → rest ≡ encode c ++ after → newer ≡ new ++ encodes (f c) → WrittenSoFar f text after old newer
written-on f text rest after old new newer c h step more cs is =
    let (r, rest_is, same) = h cs is in
    let (es, prefix, behind) = cons_from_encodes r after c (sym rest_is ∙ step) in
    let split : encodes (flat_map f r) ≡ encodes (f c) ++ encodes (flat_map f es) =
    ap (λ (z : List ℕ). encodes (flat_map f z)) prefix ∙ ap encodes (flat_map-cons f c es) ∙ encodes-append (f c) (flat_map f es) in
    (es, sym behind, ap (λ (z : List ℕ). z ++ encodes (flat_map f es)) more ∙ append_assoc new (encodes (f c)) (encodes (flat_map f es)) ∙ ap (λ (z : List ℕ). new ++ z) (sym split) ∙ same)

pub written-over : (f : ℕ → List ℕ) (text rest old new : List ℕ) → WrittenSoFar f text rest old new → rest ≡ [] → (cs : List ℕ) → text ≡ encodes cs → new ≡ old ++ encodes (flat_map f cs)
written-over f text rest old new h over cs is =
    let (r, rest_is, same) = h cs is in
    let none : r ≡ [] = no_chars r (sym rest_is ∙ over) in
    sym (append-nil new) ∙ ap (λ (z : List ℕ). new ++ encodes (flat_map f z)) (sym none) ∙ same

pub one-pushed : (a b : List ℕ) (c : ℕ) → b ≡ a ++ encode c → b ≡ a ++ encodes (c ∷ [])
one-pushed a b c is = is ∙ ap (λ (z : List ℕ). a ++ z) (sym (append-nil (encode c)))

pub two-pushed : (a b c xs ys : List ℕ) → b ≡ a ++ encodes xs → c ≡ b ++ encodes ys → c ≡ a ++ encodes (xs ++ ys)
two-pushed a b c xs ys is more =
    more ∙ ap (λ (z : List ℕ). z ++ encodes ys) is ∙ append_assoc a (encodes xs) (encodes ys) ∙ ap (λ (z : List ℕ). a ++ z) (sym (encodes-append xs ys))

-- the last push
pub tail-pushed : {T E : Type 0} (r : Result T E) (a b x y : List ℕ) → b ≡ cond (is_ok r) (a ++ x) a → a ++ x ≡ y → OnOk r (b ≡ y)
tail-pushed (Ok t) a b x y is same = is ∙ same
tail-pushed (Err e) a b x y is same = tt

pub on-ok-map : {T E : Type 0} (P Q : Type 0) (r : Result T E) → (P → Q) → OnOk r P → OnOk r Q
on-ok-map P Q (Ok t) f h = f h
on-ok-map P Q (Err e) f h = h

pub label-pushed : (old a label : List ℕ) → a ≡ old ++ 95 ∷ 58 ∷ [] → IsUtf8 label → a ++ label ≡ old ++ encodes (95 ∷ 58 ∷ chars label)
label-pushed old a label is utf8 =
    ap (λ (z : List ℕ). z ++ label) is ∙ append_assoc old (95 ∷ 58 ∷ []) label
    ∙ ap (λ (z : List ℕ). old ++ z) (sym (rw (encode_ascii 95 (omega arith), encode_ascii 58 (omega arith)) (ap (λ (z : List ℕ). 95 ∷ 58 ∷ z) (encodes-chars label utf8))))

pub tag-pushed : (old a tag : List ℕ) → a ≡ old ++ 64 ∷ [] → IsUtf8 tag → a ++ tag ≡ old ++ encodes (64 ∷ chars tag)
tag-pushed old a tag is utf8 =
    ap (λ (z : List ℕ). z ++ tag) is ∙ append_assoc old (64 ∷ []) tag
    ∙ ap (λ (z : List ℕ). old ++ z) (sym (rw (encode_ascii 64 (omega arith)) (ap (λ (z : List ℕ). 64 ∷ z) (encodes-chars tag utf8))))

pub quoted-pushed : (q : Quote) (old a b xs : List ℕ) (o e : ℕ) → o ≡ opening q → e ≡ closing q → a ≡ old ++ encode o → b ≡ a ++ encodes xs → b ++ encode e ≡ old ++ encodes (opening q ∷ (xs ++ closing q ∷ []))
quoted-pushed q old a b xs o e o_is e_is first more =
    let one : a ≡ old ++ encodes (opening q ∷ []) = one-pushed old a (opening q) (first ∙ ap (λ (z : ℕ). old ++ encode z) o_is) in
    let two : b ≡ old ++ encodes (opening q ∷ xs) = two-pushed old a b (opening q ∷ []) xs one more in
    two-pushed old b (b ++ encode e) (opening q ∷ xs) (closing q ∷ []) two (one-pushed b (b ++ encode e) (closing q) (ap (λ (z : ℕ). b ++ encode z) e_is))

-- the parts of a triple
pub triple-pushed : (old a b c d e xs ys zs : List ℕ) → a ≡ old ++ encodes xs → b ≡ a ++ 32 ∷ [] → c ≡ b ++ encodes ys → d ≡ c ++ 32 ∷ [] → e ≡ d ++ encodes zs → e ++ 32 ∷ 46 ∷ [] ≡ old ++ encodes (xs ++ (32 ∷ (ys ++ (32 ∷ (zs ++ (32 ∷ 46 ∷ []))))))
triple-pushed old a b c d e xs ys zs f g h i j =
    let space : encodes (32 ∷ []) ≡ 32 ∷ [] = rw (encode_ascii 32 (omega arith)) refl in
    let dot : encodes (32 ∷ 46 ∷ []) ≡ 32 ∷ 46 ∷ [] = rw (encode_ascii 32 (omega arith), encode_ascii 46 (omega arith)) refl in
    let two = two-pushed d e (e ++ 32 ∷ 46 ∷ []) zs (32 ∷ 46 ∷ []) j (ap (λ (z : List ℕ). e ++ z) (sym dot)) in
    let three = two-pushed c d (e ++ 32 ∷ 46 ∷ []) (32 ∷ []) (zs ++ 32 ∷ 46 ∷ []) (i ∙ ap (λ (z : List ℕ). c ++ z) (sym space)) two in
    let four = two-pushed b c (e ++ 32 ∷ 46 ∷ []) ys (32 ∷ (zs ++ 32 ∷ 46 ∷ [])) h three in
    let five = two-pushed a b (e ++ 32 ∷ 46 ∷ []) (32 ∷ []) (ys ++ (32 ∷ (zs ++ 32 ∷ 46 ∷ []))) (g ∙ ap (λ (z : List ℕ). a ++ z) (sym space)) four in
    two-pushed old a (e ++ 32 ∷ 46 ∷ []) xs (32 ∷ (ys ++ (32 ∷ (zs ++ 32 ∷ 46 ∷ [])))) f five
