-- A blank node label with its mark at the front.
use Rattle.std.proofs.Common.{◌≡◌, ◌+◌, ◌-◌, ℕ, List, [], ◌∷◌, ◌++◌, length, take, drop, refl, sym, ◌∙◌, ap, subst, arith, length-append}
use Rattle.std.specs.Prelude.{IsUtf8}
use Rattle.std.specs.Str.{IsCharBoundary}
use Rattle.std.proofs.Math.Utf8.{scalars, encodes}
use Rattle.std.proofs.lemmas.Str.{encode_ascii, encodes-append}
use Rattle.triples_read.specs.Terminals.{IsLabel}
use Rattle.triples_read.specs.Lines.{IsBlankNode}
use Rattle.triples_read.specs.SpelledPrefixes.{IsLabelPrefix, Prefix, IsText}
use Rattle.triples_read.proofs.Basics.{cons-tail, scalars-right, split-encodes, seam, rest-utf8}
use Rattle.triples_read.proofs.TagLaws.{cut_at}

marked_bytes : (v : List ℕ) → encodes (95 ∷ 58 ∷ v) ≡ 95 ∷ 58 ∷ encodes v
marked_bytes v = rw (encode_ascii 95 (omega arith), encode_ascii 58 (omega arith)) refl

-- what stands behind the mark, where a label stands there
pub label-after : (bytes after s r label : List ℕ) → bytes ≡ 95 ∷ 58 ∷ after → IsText bytes (s ++ r) → IsBlankNode s label → (v : List ℕ) × IsLabel v × (label ≡ encodes v) × (after ≡ encodes (v ++ r))
label-after bytes after s r label marked is (v, (sp, good), label_is) =
    let whole : s ++ r ≡ 95 ∷ 58 ∷ (v ++ r) = ap (λ (z : List ℕ). z ++ r) sp in
    let both : 95 ∷ 58 ∷ after ≡ 95 ∷ 58 ∷ encodes (v ++ r) = sym marked ∙ is.0 ∙ ap encodes whole ∙ marked_bytes (v ++ r) in
    (v, good, label_is, cons-tail (cons-tail both))

pub label-found : (bytes after tail prefix back label cs : List ℕ) → bytes ≡ 95 ∷ 58 ∷ after → IsLabelPrefix after tail → prefix ≡ take (length after - length tail) after → back ≡ drop (length after - length tail) after → label ≡ prefix → IsText bytes cs → Prefix (λ s. IsBlankNode s label) cs back
label-found bytes after tail prefix back label cs marked (v, good, eq) prefix_is back_is label_is is =
    let cut = cut_at after (encodes v) tail eq in
    let whole : bytes ≡ encodes (95 ∷ 58 ∷ v) ++ tail = marked ∙ ap (λ (z : List ℕ). 95 ∷ 58 ∷ z) eq ∙ ap (λ (z : List ℕ). z ++ tail) (sym (marked_bytes v)) in
    let (r, parts, left) = split-encodes (95 ∷ 58 ∷ v) cs tail (sym is.0 ∙ whole) in
    (95 ∷ 58 ∷ v, r, parts, (back_is ∙ cut.1 ∙ left, scalars-right (95 ∷ 58 ∷ v) r (sym (ap scalars parts) ∙ is.1)), (v, (refl, good), label_is ∙ prefix_is ∙ cut.0))

pub label-cut : (after v r tail prefix back : List ℕ) → after ≡ encodes (v ++ r) → tail ≡ encodes r → prefix ≡ take (length after - length tail) after → back ≡ drop (length after - length tail) after → (prefix ≡ encodes v) × (back ≡ encodes r)
label-cut after v r tail prefix back is tail_is prefix_is back_is =
    let cut = cut_at after (encodes v) tail (is ∙ encodes-append v r ∙ ap (λ (z : List ℕ). encodes v ++ z) (sym tail_is)) in
    (prefix_is ∙ cut.0, back_is ∙ cut.1 ∙ tail_is)

-- a label ends where a character does
pub label-boundary : (bytes after tail : List ℕ) → IsUtf8 bytes → bytes ≡ 95 ∷ 58 ∷ after → IsLabelPrefix after tail → IsCharBoundary after (length after - length tail)
label-boundary bytes after tail utf8 marked (v, good, eq) =
    let text = rest-utf8 (95 ∷ 58 ∷ []) after bytes utf8 (marked ∙ ap (λ (z : List ℕ). z ++ after) (sym (marked_bytes []))) in
    let size : length after ≡ length (encodes v) + length tail = ap length eq ∙ length-append (encodes v) tail in
    let count : length (encodes v) ≡ length after - length tail = omega (arith, size) in
    subst (IsCharBoundary after) count (seam v tail after text eq)
