-- UCHAR against the function that reads it.
use Rattle.std.proofs.Common.{◌≡◌, ◌<◌, ◌≤◌, ◌+◌, ◌*◌, ℕ, zero, suc, List, [], ◌∷◌, ◌++◌, length, true, refl, sym, ◌∙◌, ap, subst, arith, Some, None, Option, ◌⊎◌, inl, inr}
use Rattle.std.specs.Prelude.{nat_eq}
use Rattle.std.specs.Char.{digit_value}
use Rattle.std.specs.List.{AllByRecursion}
use Rattle.std.proofs.Math.Utf8.{scalar, scalars, encodes, low_scalar}
use Rattle.std.proofs.lemmas.Str.{encode_ascii}
use Rattle.std.proofs.lemmas.Bool.{ltb-true, eqb-true, cases_lt}
use Rattle.std.proofs.lemmas.Bool.Decides.{nat_tests}
use Rattle.triples_read.specs.Characters.{is_hex, is_iri_char}
use Rattle.triples_read.specs.Terminals.{UCHAR, HEX, hex_number}
use Rattle.triples_read.specs.ByteReaders.{hex_at, scalar_of, with_len, uchar_at}
use Rattle.triples_read.proofs.Basics.{bool_cases, first_of, second_of, none_some}
use Rattle.triples_read.proofs.BodyPieces.{Escapes, Kind}

pair_some : (a b c d : ℕ) → ◌≡◌ {A = Option (ℕ × ℕ)} (Some (a, b)) (Some (c, d)) → (a ≡ c) × (b ≡ d)
pair_some a b c d e = (ap first_of e, ap second_of e)

hex-sound : (k n m : ℕ) (bs : List ℕ) → hex_at k n bs ≡ Some m → (hs : List ℕ) × (rest : List ℕ) × (bs ≡ hs ++ rest) × (length hs ≡ k) × AllByRecursion HEX hs × (m ≡ hex_number n hs)
hex-sound zero n m bs e = ([], bs, refl, refl, tt, cc)
hex-sound (suc k) n m [] e = absurd cc
hex-sound (suc k) n m (b ∷ bs) e =
    elim (bool_cases (is_hex b)) [
      | inl good ↦ (
          let next : hex_at k (16 * n + digit_value b) bs ≡ Some m = sym (rw good refl) ∙ e in
          let (hs, rest, parts, len, all, is) = hex-sound k (16 * n + digit_value b) m bs next in
          (b ∷ hs, rest, ap (λ (z : List ℕ). b ∷ z) parts, ap suc len, (good, all), is))
      | inr bad ↦ absurd (none_some m (sym (rw bad refl) ∙ e))
    ]

hex-complete : (hs rest : List ℕ) (n : ℕ) → AllByRecursion HEX hs → hex_at (length hs) n (hs ++ rest) ≡ Some (hex_number n hs)
hex-complete [] rest n all = refl
hex-complete (h ∷ hs) rest n all = rw all.0 (hex-complete hs rest (16 * n + digit_value h) all.1)

no_hex : (h : ℕ) → 128 ≤ h → is_hex h ≡ true → ⊥
no_hex h large e = let small : digit_value h < 16 = ltb-true (digit_value h) 16 e in grind (arith, nat_tests)

hex_small : (h : ℕ) → is_hex h ≡ true → h < 128
hex_small h e =
    elim (cases_lt h 128) [
      | inl small ↦ small
      | inr large ↦ absurd (no_hex h large e)
    ]

hex_ascii : (hs : List ℕ) → AllByRecursion HEX hs → encodes hs ≡ hs
hex_ascii [] all = refl
hex_ascii (h ∷ hs) all = rw (encode_ascii h (hex_small h all.0)) (ap (λ (z : List ℕ). h ∷ z) (hex_ascii hs all.1))

scalar-some : (o : Option ℕ) (k c n : ℕ) → with_len k (scalar_of o) ≡ Some (c, n) → (o ≡ Some c) × (scalar c ≡ true) × (n ≡ k)
scalar-some None k c n e = absurd cc
scalar-some (Some m) k c n e =
    elim (bool_cases (scalar m)) [
      | inl good ↦ (
          let known : ◌≡◌ {A = Option (ℕ × ℕ)} (Some (m, k)) (Some (c, n)) = sym (rw good refl) ∙ e in
          let both = pair_some m k c n known in
          (ap Some both.0, ap scalar (sym both.0) ∙ good, sym both.1))
      | inr bad ↦ absurd (none_some (c, n) (sym (rw bad refl) ∙ e))
    ]

abbrev Which : ℕ → ℕ → Type 0
Which u n = ((u ≡ 117) × (n ≡ 4)) ⊎ ((u ≡ 85) × (n ≡ 8))

which_small : (u n : ℕ) → Which u n → u < 128
which_small u n (inl h) = omega (arith, h.0)
which_small u n (inr h) = omega (arith, h.0)

uchar_ascii : (u n : ℕ) (hs : List ℕ) → Which u n → AllByRecursion HEX hs → encodes (92 ∷ u ∷ hs) ≡ 92 ∷ u ∷ hs
uchar_ascii u n hs which all = rw (encode_ascii 92 (omega arith), encode_ascii u (which_small u n which), hex_ascii hs all) refl

sound-of : (u count c n k : ℕ) (bs : List ℕ) → Which u count → k ≡ suc (suc count) → with_len k (scalar_of (hex_at count 0 bs)) ≡ Some (c, n) → (s : List ℕ) × (rest : List ℕ) × (92 ∷ u ∷ bs ≡ s ++ rest) × (n ≡ length s) × UCHAR s c × (encodes s ≡ s)
sound-of u count c n k bs which long e =
    let (read, good, len) = scalar-some (hex_at count 0 bs) k c n e in
    let (hs, rest, parts, many, all, is) = hex-sound count 0 c bs read in
    let which' : Which u (length hs) = subst (Which u) (sym many) which in
    (92 ∷ u ∷ hs, rest, ap (λ (z : List ℕ). 92 ∷ u ∷ z) parts, len ∙ long ∙ ap (λ (z : ℕ). suc (suc z)) (sym many), (u, hs, refl, which', all, is, good), uchar_ascii u (length hs) hs which' all)

uchar-sound : (bs : List ℕ) (c n : ℕ) → uchar_at bs ≡ Some (c, n) → (s : List ℕ) × (rest : List ℕ) × (92 ∷ bs ≡ s ++ rest) × (n ≡ length s) × UCHAR s c × (encodes s ≡ s)
uchar-sound [] c n e = absurd cc
uchar-sound (u ∷ bs) c n e =
    elim (bool_cases (nat_eq u 117)) [
      | inl short ↦ sound-of u 4 c n 6 bs (inl (eqb-true u 117 short, refl)) refl (sym (rw short refl) ∙ e)
      | inr other ↦ elim (bool_cases (nat_eq u 85)) [
        | inl long ↦ sound-of u 8 c n 10 bs (inr (eqb-true u 85 long, refl)) refl (sym (rw (other, long) refl) ∙ e)
        | inr none ↦ absurd (none_some (c, n) (sym (rw (other, none) refl) ∙ e))
      ]
    ]

uchar-4 : (bs : List ℕ) (m : ℕ) → hex_at 4 0 bs ≡ Some m → scalar m ≡ true → uchar_at (117 ∷ bs) ≡ Some (m, 6)
uchar-4 bs m read good = ap (λ (o : Option ℕ). with_len 6 (scalar_of o)) read ∙ rw good refl

uchar-8 : (bs : List ℕ) (m : ℕ) → hex_at 8 0 bs ≡ Some m → scalar m ≡ true → uchar_at (85 ∷ bs) ≡ Some (m, 10)
uchar-8 bs m read good = ap (λ (o : Option ℕ). with_len 10 (scalar_of o)) read ∙ rw good refl

uchar-complete : (s : List ℕ) (c : ℕ) → UCHAR s c → (t : List ℕ) × (s ≡ 92 ∷ t) × (encodes s ≡ s) × ((rest : List ℕ) → uchar_at (t ++ rest) ≡ Some (c, length s))
uchar-complete s c (u, hs, sp, inl short, all, is, good) = (
  u ∷ hs,
  sp,
  ap encodes sp ∙ uchar_ascii u (length hs) hs (inl short) all ∙ sym sp,
  λ rest.
      let read : hex_at 4 0 (hs ++ rest) ≡ Some c = ap (λ (k : ℕ). hex_at k 0 (hs ++ rest)) (sym short.1) ∙ hex-complete hs rest 0 all ∙ ap Some (sym is) in
      let len : 6 ≡ length s = sym (ap length sp ∙ ap (λ (z : ℕ). suc (suc z)) short.1) in
      ap (λ (z : ℕ). uchar_at (z ∷ (hs ++ rest))) short.0 ∙ uchar-4 (hs ++ rest) c read good ∙ ap (λ (z : ℕ). Some (c, z)) len,
)
uchar-complete s c (u, hs, sp, inr long, all, is, good) = (
  u ∷ hs,
  sp,
  ap encodes sp ∙ uchar_ascii u (length hs) hs (inr long) all ∙ sym sp,
  λ rest.
      let read : hex_at 8 0 (hs ++ rest) ≡ Some c = ap (λ (k : ℕ). hex_at k 0 (hs ++ rest)) (sym long.1) ∙ hex-complete hs rest 0 all ∙ ap Some (sym is) in
      let len : 10 ≡ length s = sym (ap length sp ∙ ap (λ (z : ℕ). suc (suc z)) long.1) in
      ap (λ (z : ℕ). uchar_at (z ∷ (hs ++ rest))) long.0 ∙ uchar-8 (hs ++ rest) c read good ∙ ap (λ (z : ℕ). Some (c, z)) len,
)

hex_scalars : (hs : List ℕ) → AllByRecursion HEX hs → scalars hs ≡ true
hex_scalars [] all = refl
hex_scalars (h ∷ hs) all = rw (low_scalar h (omega (arith, hex_small h all.0)), hex_scalars hs all.1) refl

uchar-text : (s : List ℕ) (c : ℕ) → UCHAR s c → scalars s ≡ true
uchar-text s c (u, hs, sp, which, all, is, good) =
    rw (sp, low_scalar 92 (omega arith), low_scalar u (omega (arith, which_small u (length hs) which)), hex_scalars hs all) refl

pub uchar_escapes : Escapes UCHAR uchar_at
uchar_escapes = record { sound = uchar-sound; text = uchar-text; complete = uchar-complete }

iri_wide : (c : ℕ) → 128 ≤ c → is_iri_char c ≡ true
iri_wide c large = grind (arith, nat_tests)

pub iri_kind : Kind is_iri_char 62
iri_kind = record { no_escape = refl; no_end = refl; end_ascii = omega arith; end_other = λ e. cc; wide = iri_wide }
