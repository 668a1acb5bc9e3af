-- Words as bits.
use Rattle.std.proofs.Common.{◌≡◌, ℕ, ◌*◌, ◌/◌, ◌%◌, ◌^◌, ◌<◌, true, false, not, eqb, nat_eq, List, [], length, replicate, get_or, set, sym, ◌∙◌, ap, inl, inr, arith, ext_get_or, length-set, get_or-set_same, get_or-set_other, eq-eqb, ne_eqb, w64}
use Rattle.std.proofs.lemmas.List.{length-replicate, get_or-replicate, get_or_past}
use Rattle.std.proofs.lemmas.List.FromFn.{length-map-range_with_len, get_or-map-range_with_len}
use Rattle.std.proofs.lemmas.Bool.{cases_eq, cases_lt}
use Rattle.std.proofs.lemmas.Nat.{one_shl, pow_pos}
use Rattle.std.proofs.lemmas.Nat.Bits.{bit_at_set_same, bit_at_set_other, bit_at-zero, and_pow}
use Rattle.std.specs.Prelude.{bit_and, bit_or, ◌||◌}
use Rattle.std.specs.Int.{bit_at}
use Rattle.path_automaton.specs.MarkRows.{bit_of, flags_of}

pub length-flags_of : (width : ℕ) (words : List ℕ) → length (flags_of width words) ≡ width
unfolding flags_of
length-flags_of width words = length-map-range_with_len (bit_of words) 0 width

pub get_or-flags_of : (width : ℕ) (words : List ℕ) (k : ℕ) → k < width → get_or (flags_of width words) k false ≡ bit_of words k
unfolding flags_of
get_or-flags_of width words k h = get_or-map-range_with_len (bit_of words) 0 width k k false h (omega arith)

-- no bit is set
pub bit_of-nil : (k : ℕ) → bit_of [] k ≡ false
bit_of-nil k = ap (λ x. eqb x 1) (bit_at-zero (k % 64))

pub bit_of-zeros : (n k : ℕ) → bit_of (replicate {A = ℕ} n 0) k ≡ false
bit_of-zeros n k = ap (λ (x : ℕ). eqb (bit_at x (k % 64)) 1) (zeros n (k / 64)) ∙ ap (λ x. eqb x 1) (bit_at-zero (k % 64))
  where
    zeros : (n i : ℕ) → get_or (replicate {A = ℕ} n 0) i 0 ≡ 0
    zeros n i = elim (cases_lt i n) [
      | inl within ↦ get_or-replicate n i 0 0 within
      | inr past ↦ get_or_past (replicate {A = ℕ} n 0) i 0 (omega (arith, length-replicate {A = ℕ} n 0))
    ]

pub flags_of-nil : (width : ℕ) → flags_of width [] ≡ replicate width false
flags_of-nil width =
    ext_get_or false _ _ (length-flags_of width [] ∙ sym (length-replicate width false))
    (λ k h.
    let within : k < width = rw length-flags_of at h in
    get_or-flags_of width [] k within ∙ bit_of-nil k ∙ sym (get_or-replicate width k false false within))

pub flags_of-same : (width : ℕ) (old new : List ℕ) → ((k : ℕ) → bit_of new k ≡ bit_of old k) → flags_of width new ≡ flags_of width old
flags_of-same width old new same =
    ext_get_or false _ _ (length-flags_of width new ∙ sym (length-flags_of width old))
    (λ k h.
    let within : k < width = rw length-flags_of at h in
    get_or-flags_of width new k within ∙ same k ∙ sym (get_or-flags_of width old k within))

pub flags_of-set : (width : ℕ) (old new : List ℕ) (n : ℕ) → n < width → ((k : ℕ) → bit_of new k ≡ (nat_eq k n || bit_of old k))
    → flags_of width new ≡ set (flags_of width old) n true
flags_of-set width old new n inside bits =
    let n_in : n < length (flags_of width old) = omega (arith, length-flags_of width old) in
    ext_get_or false _ _ (length-flags_of width new ∙ sym (length-flags_of width old) ∙ sym (length-set (flags_of width old) n true))
    (λ k h.
    let within : k < width = rw length-flags_of at h in
    get_or-flags_of width new k within ∙ bits k
    ∙ (elim (cases_eq k n) as (λ _. (nat_eq k n || bit_of old k) ≡ get_or (set (flags_of width old) n true) k false) [
      | inl same ↦
          ap (λ b. b || bit_of old k) (eq-eqb k n same) ∙ sym (get_or-set_same (flags_of width old) n true false n_in)
          ∙ ap (λ i. get_or (set (flags_of width old) n true) i false) (sym same)
      | inr other ↦
          ap (λ b. b || bit_of old k) (ne_eqb k n other) ∙ sym (get_or-flags_of width old k within) ∙ sym (get_or-set_other (flags_of width old) n k true false other)
    ]))

-- the test `word & bit == 0`
pub bit_clear : (word k : ℕ) → k < 64 → eqb (bit_and word (1 * 2 ^ k % 2 ^ 64)) 0 ≡ not (eqb (bit_at word k) 1)
bit_clear word k h =
    let e : bit_and word (1 * 2 ^ k % 2 ^ 64) ≡ bit_at word k * 2 ^ k = ap (bit_and word) (one_shl k 64 h) ∙ and_pow word k in
    let b : ℕ = bit_at word k in
    let small : b < 2 = omega arith in
    elim (cases_eq b 1) [
      | inl one ↦
          let big : 0 < bit_and word (1 * 2 ^ k % 2 ^ 64) = rw (e, one) (omega (arith, pow_pos k)) in
          ne_eqb _ 0 (omega arith) ∙ sym (ap not (eq-eqb b 1 one))
      | inr other ↦
          let none : b ≡ 0 = omega arith in
          eq-eqb _ 0 (rw (e, none) (omega arith)) ∙ sym (ap not (ne_eqb b 1 other))
    ]

-- a word with one bit more
pub bits_with : (words : List ℕ) (n word : ℕ) → n < 64 * length words → word ≡ get_or words (n / 64) 0 → (k : ℕ)
    → bit_of (set words (n / 64) (bit_or word (1 * 2 ^ (n % 64) % 2 ^ 64))) k ≡ (nat_eq k n || bit_of words k)
bits_with words n word within read k =
    let v : ℕ = bit_or word (1 * 2 ^ (n % 64) % 2 ^ 64) in
    let word_in : n / 64 < length words = omega arith in
    let low : n % 64 < 64 = omega arith in
    elim (cases_eq k n) as (λ _. bit_of (set words (n / 64) v) k ≡ (nat_eq k n || bit_of words k)) [
      | inl same ↦
          ap (bit_of (set words (n / 64) v)) same
          ∙ ap (λ x. eqb (bit_at x (n % 64)) 1) (get_or-set_same words (n / 64) v 0 word_in)
          ∙ eq-eqb _ 1 (bit_at_set_same w64 word (n % 64) low)
          ∙ ap (λ b. b || bit_of words k) (sym (eq-eqb k n same))
      | inr other ↦
          (elim (cases_eq (k / 64) (n / 64)) as (λ _. bit_of (set words (n / 64) v) k ≡ bit_of words k) [
            | inl row ↦
                ap (λ x. eqb (bit_at (get_or (set words (n / 64) v) x 0) (k % 64)) 1) row
                ∙ ap (λ x. eqb (bit_at x (k % 64)) 1) (get_or-set_same words (n / 64) v 0 word_in)
                ∙ ap (λ x. eqb x 1) (bit_at_set_other w64 word (n % 64) low (k % 64) (omega arith))
                ∙ ap (λ x. eqb (bit_at x (k % 64)) 1) (read ∙ ap (λ x. get_or words x 0) (sym row))
            | inr apart ↦ ap (λ x. eqb (bit_at x (k % 64)) 1) (get_or-set_other words (n / 64) (k / 64) v 0 apart)
          ])
          ∙ ap (λ b. b || bit_of words k) (sym (ne_eqb k n other))
    ]
