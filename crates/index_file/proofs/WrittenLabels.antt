-- No end of a line stands in a label that is spelled as it is.
use Rattle.std.proofs.Common.{◌≡◌, ◌≢◌, ℕ, ◌+◌, ◌/◌, ◌%◌, ◌<◌, List, [], ◌∷◌, ◌++◌, true, false, Bool, cond, sym, subst, arith, inl, inr}
use Rattle.std.specs.Prelude.{nat_lt}
use Rattle.std.specs.List.{list_all, flat_map}
use Rattle.std.specs.Str.{chars}
use Rattle.std.proofs.Math.Utf8.{encode, encodes}
use Rattle.std.proofs.lemmas.Bool.{cases_Bool, and_parts, ltb-true}
use Rattle.std.proofs.lemmas.Bool.Decides.{nat_tests}
use Rattle.std.proofs.lemmas.List.Concat.{flat_map-cons}
use Rattle.graph_spec.specs.Lines.{IsUncut}
use Rattle.graph_spec.specs.Words.{is_name_byte}
use Rattle.triples_read.specs.Characters.{is_iri_char}
use Rattle.triples_read.specs.Canonical.{upper_hex, iri_char, iri_text}
use Rattle.path_query.specs.Labels.{SpellsLabel}
use Rattle.path_query.proofs.LabelBytes.{name_bytes}
use Rattle.index_file.proofs.WrittenLines.{uncut_both}

name_byte_high : (b : ℕ) → is_name_byte b ≡ true → 32 < b
name_byte_high b h = grind (arith, nat_tests)

uncut_names : (w : List ℕ) → list_all is_name_byte w ≡ true → IsUncut w
uncut_names [] h = tt
uncut_names (b ∷ bs) h =
    let p = and_parts (is_name_byte b) (list_all is_name_byte bs) h in
    let high = name_byte_high b p.0 in
    (λ e. omega (arith, e, high), λ e. omega (arith, e, high), uncut_names bs p.1)

-- each character is past the space (32)
abbrev AreHigh : List ℕ → Type 0
AreHigh [] = Unit {0}
AreHigh (c ∷ cs) = (32 < c) × AreHigh cs

high_both : (a b : List ℕ) → AreHigh a → AreHigh b → AreHigh (a ++ b)
high_both [] b h k = k
high_both (c ∷ a) b h k = (h.0, high_both a b h.1 k)

hex_high : (d : ℕ) → 32 < upper_hex d
hex_high d = elim (cases_Bool (nat_lt d 10)) [
  | inl on ↦ rw on (omega arith)
  | inr off ↦ rw off (omega arith)
]

escape_high : (d e : ℕ) → AreHigh (92 ∷ 117 ∷ 48 ∷ 48 ∷ upper_hex d ∷ upper_hex e ∷ [])
escape_high d e = (omega arith, (omega arith, (omega arith, (omega arith, (hex_high d, (hex_high e, tt))))))

iri_char_high : (c : ℕ) → AreHigh (iri_char c)
iri_char_high c = elim (cases_Bool (is_iri_char c)) [
  | inl on ↦ (let h = ltb-true 32 c (and_parts (nat_lt 32 c) _ on).0 in rw on (h, tt))
  | inr off ↦ rw off (escape_high (c / 16) (c % 16))
]

iri_chars_high : (cs : List ℕ) → AreHigh (flat_map iri_char cs)
iri_chars_high [] = tt
iri_chars_high (c ∷ cs) = subst AreHigh (sym (flat_map-cons iri_char c cs)) (high_both (iri_char c) (flat_map iri_char cs) (iri_char_high c) (iri_chars_high cs))

-- so is each of its bytes
uncut_either : (b : Bool) (x y : List ℕ) → IsUncut x → IsUncut y → IsUncut (cond b x y)
uncut_either true x y h k = h
uncut_either false x y h k = k

no_end : (b : ℕ) → 32 < b → (b ≢ 10) × (b ≢ 13)
no_end b h = (λ e. omega (arith, e, h), λ e. omega (arith, e, h))

uncut_byte : (b : ℕ) (bs : List ℕ) → 32 < b → IsUncut bs → IsUncut (b ∷ bs)
uncut_byte b bs h k = let n = no_end b h in (n.0, n.1, k)

-- a byte behind the first one of a character
high_next : (n : ℕ) → 32 < 128 + n % 64
high_next n = omega arith

uncut_char : (c : ℕ) → 32 < c → IsUncut (encode c)
unfolding encode
uncut_char c h =
    let n0 : ℕ = 128 + c % 64 in
    let n1 : ℕ = 128 + c / 64 % 64 in
    let n2 : ℕ = 128 + c / 4096 % 64 in
    let two : List ℕ = (192 + c / 64) ∷ n0 ∷ [] in
    let three : List ℕ = (224 + c / 4096) ∷ n1 ∷ n0 ∷ [] in
    let four : List ℕ = (240 + c / 262144) ∷ n2 ∷ n1 ∷ n0 ∷ [] in
    let u0 = uncut_byte n0 [] (high_next c) tt in
    let u1 = uncut_byte n1 (n0 ∷ []) (high_next (c / 64)) u0 in
    let u2 = uncut_byte n2 (n1 ∷ n0 ∷ []) (high_next (c / 4096)) u1 in
    uncut_either (nat_lt c 128) (c ∷ []) (cond (nat_lt c 2048) two (cond (nat_lt c 65536) three four)) (uncut_byte c [] h tt)
    (uncut_either (nat_lt c 2048) two (cond (nat_lt c 65536) three four) (uncut_byte (192 + c / 64) (n0 ∷ []) (omega arith) u0)
    (uncut_either (nat_lt c 65536) three four (uncut_byte (224 + c / 4096) (n1 ∷ n0 ∷ []) (omega arith) u1)
    (uncut_byte (240 + c / 262144) (n2 ∷ n1 ∷ n0 ∷ []) (omega arith) u2)))

uncut_chars : (cs : List ℕ) → AreHigh cs → IsUncut (encodes cs)
uncut_chars [] h = tt
uncut_chars (c ∷ cs) h = uncut_both (encode c) (encodes cs) (uncut_char c h.0) (uncut_chars cs h.1)

pub uncut_label : (t : List ℕ) → SpellsLabel t t → IsUncut t
uncut_label t (inl (plain, e)) = uncut_names t (name_bytes t plain.0)
uncut_label t (inr (iri, prefix, e)) =
    subst IsUncut (sym e) (uncut_chars (iri_text (chars iri)) (omega arith, high_both (flat_map iri_char (chars iri)) (62 ∷ []) (iri_chars_high (chars iri)) (omega arith, tt)))
