-- How many edges pass a test, once an edge comes or goes.
use Rattle.std.proofs.Common.{◌≡◌, ℕ, zero, suc, ◌+◌, ◌-◌, Bool, true, false, cond, refl, sym, ap, ◌∙◌, arith, inl, inr}
use Rattle.std.specs.Prelude.{◌&&◌, ◌||◌, not}
use Rattle.std.specs.FinSet as set
use Rattle.std.proofs.Math.Bool.{and-false, and-true}
use Rattle.std.proofs.lemmas.Bool.{cases_Bool, and_from}
use Rattle.graph_spec.specs.Graphs.{Edges}
use Rattle.graph_spec.proofs.EdgeOrder.{edge_cmp_total}
use Rattle.bisim_spec.proofs.BelowLaws.{bit_of}
use Rattle.bisim_spec.proofs.EdgeSets.{eq, eq_is, kept, same_len, some_len, member_of, kept_len}

pub removed_len : (s : Edges) (k : ℕ × ℕ) → set.contains s k ≡ true → set.len (set.remove s k) ≡ set.len s - 1
removed_len s k e = set.len-remove edge_cmp_total s k ∙ ap (λ b. cond b (set.len s - 1) (set.len s)) e

-- tests that agree on the edges keep as many
pub kept_same : (s : Edges) (p q : ℕ × ℕ → Bool) → ((k : ℕ × ℕ) → set.contains s k ≡ true → p k ≡ q k) → set.len (set.retain s p) ≡ set.len (set.retain s q)
kept_same s p q h = same_len (set.retain s p) (set.retain s q) (λ k. kept s p k ∙ same k ∙ sym (kept s q k))
  where
    same : (k : ℕ × ℕ) → (set.contains s k && p k) ≡ (set.contains s k && q k)
    same k = elim (cases_Bool (set.contains s k)) [
      | inl on ↦ ap (λ b. set.contains s k && b) (h k on)
      | inr off ↦ rw off refl
    ]

-- a second test that says no more than the first
pub kept_twice : (s : Edges) (p q : ℕ × ℕ → Bool) → ((k : ℕ × ℕ) → p k ≡ true → q k ≡ true) → set.len (set.retain (set.retain s q) p) ≡ set.len (set.retain s p)
kept_twice s p q h = same_len (set.retain (set.retain s q) p) (set.retain s p) (λ k. kept (set.retain s q) p k ∙ ap (λ b. b && p k) (kept s q k) ∙ same k ∙ sym (kept s p k))
  where
    same : (k : ℕ × ℕ) → ((set.contains s k && q k) && p k) ≡ (set.contains s k && p k)
    same k = elim (cases_Bool (p k)) [
      | inl on ↦ (let t = h k on in rw (on, t) (ap (λ b. b && true) (and-true (set.contains s k))))
      | inr off ↦ rw off (and-false (set.contains s k && q k) ∙ sym (and-false (set.contains s k)))
    ]

longer : (s : Edges) (e : ℕ × ℕ) → set.contains s e ≡ false → set.len (set.insert s e) ≡ set.len s + 1
longer s e absent = set.len-insert edge_cmp_total s e ∙ ap (λ b. cond b (set.len s) (set.len s + 1)) absent

-- an edge that comes counts where it passes
pub kept_more : (s : Edges) (p : ℕ × ℕ → Bool) (e : ℕ × ℕ) → set.contains s e ≡ false → set.len (set.retain (set.insert s e) p) ≡ set.len (set.retain s p) + bit_of (p e)
kept_more s p e absent = elim (cases_Bool (p e)) [
  | inl on ↦ (
      let same = same_len (set.retain (set.insert s e) p) (set.insert (set.retain s p) e) (λ k.
      kept (set.insert s e) p k ∙ ap (λ b. b && p k) (set.contains-insert edge_cmp_total s e k) ∙ passing on k
      ∙ sym (set.contains-insert edge_cmp_total (set.retain s p) e k ∙ ap (λ b. eq k e || b) (kept s p k))) in
      let more = longer (set.retain s p) e (kept s p e ∙ ap (λ b. b && p e) absent) in
      let one : bit_of (p e) ≡ 1 = ap bit_of on in
      omega (arith, same, more, one))
  | inr off ↦ (
      let same = same_len (set.retain (set.insert s e) p) (set.retain s p) (λ k.
      kept (set.insert s e) p k ∙ ap (λ b. b && p k) (set.contains-insert edge_cmp_total s e k) ∙ failing off k ∙ sym (kept s p k)) in
      let none : bit_of (p e) ≡ 0 = ap bit_of off in
      omega (arith, same, none))
]
  where
    passing : p e ≡ true → (k : ℕ × ℕ) → ((eq k e || set.contains s k) && p k) ≡ (eq k e || (set.contains s k && p k))
    passing on k = elim (cases_Bool (eq k e)) [
      | inl h ↦ (let t : p k ≡ true = ap p (eq_is k e h) ∙ on in rw (h, t) refl)
      | inr h ↦ rw h refl
    ]

    failing : p e ≡ false → (k : ℕ × ℕ) → ((eq k e || set.contains s k) && p k) ≡ (set.contains s k && p k)
    failing off k = elim (cases_Bool (eq k e)) [
      | inl h ↦ (let t : p k ≡ false = ap p (eq_is k e h) ∙ off in rw (h, t) (sym (and-false (set.contains s k))))
      | inr h ↦ rw h refl
    ]

-- and one that goes no longer counts
pub kept_less : (s : Edges) (p : ℕ × ℕ → Bool) (e : ℕ × ℕ) → set.contains s e ≡ true → set.len (set.retain (set.remove s e) p) + bit_of (p e) ≡ set.len (set.retain s p)
kept_less s p e present = elim (cases_Bool (p e)) [
  | inl on ↦ (
      let there : set.contains (set.retain s p) e ≡ true = kept s p e ∙ and_from (set.contains s e) (p e) present on in
      let same = same_len (set.retain (set.remove s e) p) (set.remove (set.retain s p) e) (λ k.
      kept (set.remove s e) p k ∙ ap (λ b. b && p k) (set.contains-remove edge_cmp_total s e k) ∙ passing k
      ∙ sym (set.contains-remove edge_cmp_total (set.retain s p) e k ∙ ap (λ b. not (eq k e) && b) (kept s p k))) in
      let less = removed_len (set.retain s p) e there in
      let some = some_len (set.retain s p) e there in
      let one : bit_of (p e) ≡ 1 = ap bit_of on in
      omega (arith, same, less, some, one))
  | inr off ↦ (
      let same = same_len (set.retain (set.remove s e) p) (set.retain s p) (λ k.
      kept (set.remove s e) p k ∙ ap (λ b. b && p k) (set.contains-remove edge_cmp_total s e k) ∙ failing off k ∙ sym (kept s p k)) in
      let none : bit_of (p e) ≡ 0 = ap bit_of off in
      omega (arith, same, none))
]
  where
    shift : (a b c : Bool) → ((a && b) && c) ≡ (a && (b && c))
    shift true b c = refl
    shift false b c = refl

    passing : (k : ℕ × ℕ) → ((not (eq k e) && set.contains s k) && p k) ≡ (not (eq k e) && (set.contains s k && p k))
    passing k = shift (not (eq k e)) (set.contains s k) (p k)

    failing : p e ≡ false → (k : ℕ × ℕ) → ((not (eq k e) && set.contains s k) && p k) ≡ (set.contains s k && p k)
    failing off k = elim (cases_Bool (eq k e)) [
      | inl h ↦ (let t : p k ≡ false = ap p (eq_is k e h) ∙ off in rw (h, t) (sym (and-false (set.contains s k))))
      | inr h ↦ rw h refl
    ]

-- the edges that pass and those that don't are all edges
pub halves : (n : ℕ) (s : Edges) (p : ℕ × ℕ → Bool) → set.len s ≡ n → set.len (set.retain s p) + set.len (set.retain s (λ k. not (p k))) ≡ set.len s
halves zero s p h =
    let a = kept_len s p in
    let b = kept_len s (λ k. not (p k)) in
    omega (arith, h, a, b)
halves (suc n) s p h =
    let k = member_of s (omega (arith, h)) in
    let fewer = removed_len s k.0 k.1 in
    let first = kept_less s p k.0 k.1 in
    let second = kept_less s (λ q. not (p q)) k.0 k.1 in
    let rest = halves n (set.remove s k.0) p (omega (arith, h, fewer)) in
    let one = one_of (p k.0) in
    omega (arith, h, fewer, first, second, rest, one)
  where
    one_of : (b : Bool) → bit_of b + bit_of (not b) ≡ 1
    one_of true = refl
    one_of false = refl

and_on : (a b : Bool) → b ≡ true → (a && b) ≡ a
and_on a b h = ap (λ x. a && x) h ∙ and-true a

-- an edge that goes, if it was there
pub kept_gone : (s : Edges) (p : ℕ × ℕ → Bool) (e : ℕ × ℕ) → set.len (set.retain (set.remove s e) p) + bit_of (set.contains s e && p e) ≡ set.len (set.retain s p)
kept_gone s p e = elim (cases_Bool (set.contains s e)) [
  | inl on ↦ (
      let law = kept_less s p e on in
      let one : bit_of (set.contains s e && p e) ≡ bit_of (p e) = ap (λ b. bit_of (b && p e)) on in
      omega (arith, law, one))
  | inr off ↦ (
      let same = same_len (set.retain (set.remove s e) p) (set.retain s p) (λ k.
      kept (set.remove s e) p k ∙ ap (λ b. b && p k) (set.contains-remove edge_cmp_total s e k ∙ still off k) ∙ sym (kept s p k)) in
      let none : bit_of (set.contains s e && p e) ≡ 0 = ap (λ b. bit_of (b && p e)) off in
      omega (arith, same, none))
]
  where
    still : set.contains s e ≡ false → (k : ℕ × ℕ) → (not (eq k e) && set.contains s k) ≡ set.contains s k
    still off k = elim (cases_Bool (eq k e)) [
      | inl h ↦ (let t : set.contains s k ≡ false = ap (set.contains s) (eq_is k e h) ∙ off in rw (h, t) refl)
      | inr h ↦ rw h refl
    ]
