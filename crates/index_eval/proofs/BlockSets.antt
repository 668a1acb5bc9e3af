-- Sets of nodes that grow by the members of a block.
use Rattle.std.proofs.Common.{◌≡◌, ◌≢◌, ℕ, ◌+◌, ◌≤◌, Bool, true, false, ◌&&◌, ◌||◌, List, Option, None, Some, refl, sym, ap, ◌∙◌, arith, inl, inr, lt-ltb}
use Rattle.std.specs.Prelude.{nat_lt, IsTrue}
use Rattle.std.proofs.lemmas.Bool.{cases_lt}
use Rattle.std.proofs.lemmas.Bool.Decides.{eqb_tells, nat_tests}
use Rattle.std.specs.List.Sorted.{IsStrictlyIncreasing}
use Rattle.graph_spec.specs.Members.{has, at, is_this}
use Rattle.px_base.specs.BitSets.{IsNext}
use Rattle.index_eval.specs.Extents.{is_in_blocks, AreOfBlocks}

-- a number that is taken out of the list is put into the set
pub moved : (p q o x : Bool) → ((p || q) || o) ≡ x → (q || (p || o)) ≡ x
moved true true o x h = h
moved true false o x h = h
moved false q o x h = h

-- whether this is one of the blocks below a number
abbrev pub is_in_below : ℕ → List ℕ → Option ℕ → Bool
is_in_below from blocks None = false
is_in_below from blocks (Some b) = nat_lt b from && has blocks b

pub not_below : (x n : ℕ) → n ≤ x → nat_lt x n ≡ false
not_below x n h = grind (arith, nat_tests)

pub below_none : (blocks : List ℕ) (o : Option ℕ) → is_in_below 0 blocks o ≡ false
below_none blocks None = refl
below_none blocks (Some b) = ap (λ t. t && has blocks b) (not_below b 0 (omega arith))

nothing_and : (a b : Bool) → b ≡ false → (a && b) ≡ false
nothing_and true b h = h
nothing_and false b h = refl

pub below_step : (blocks : List ℕ) (from b : ℕ) → IsNext blocks from b → (o : Option ℕ) → is_in_below (b + 1) blocks o ≡ (is_this b o || is_in_below from blocks o)
below_step blocks from b next None = refl
below_step blocks from b next (Some x) = elim (eqb_tells b x) [
  | inl same ↦
      (let e : b ≡ x = same.1 in
      let within : nat_lt x (b + 1) ≡ true = lt-ltb x (b + 1) (omega (arith, e)) in
      let member : has blocks x ≡ true = ap (has blocks) (sym e) ∙ next.member in
      ap (λ t. t && has blocks x) within ∙ member ∙ sym (ap (λ t. t || (nat_lt x from && has blocks x)) same.0))
  | inr other ↦
      (let ne : b ≢ x = other.1 in
      sided ne ∙ sym (ap (λ t. t || (nat_lt x from && has blocks x)) other.0))
]
  where
    sided : b ≢ x → (nat_lt x (b + 1) && has blocks x) ≡ (nat_lt x from && has blocks x)
    sided ne = elim (cases_lt x from) [
      | inl l ↦ (let le = next.from in ap (λ t. t && has blocks x) (lt-ltb x (b + 1) (omega (arith, le)) ∙ sym (lt-ltb x from l)))
      | inr past ↦ elim (cases_lt x (b + 1)) [
        | inl l ↦
            (let none : has blocks x ≡ false = next.first x past (omega (arith, ne, l)) in
            nothing_and (nat_lt x (b + 1)) (has blocks x) none ∙ sym (nothing_and (nat_lt x from) (has blocks x) none))
        | inr above ↦ ap (λ t. t && has blocks x) (not_below x (b + 1) above ∙ sym (not_below x from past))
      ]
    ]

pub below_end : (blocks : List ℕ) (from : ℕ) → ((m : ℕ) → from ≤ m → has blocks m ≡ false) → (o : Option ℕ) → is_in_below from blocks o ≡ is_in_blocks blocks o
below_end blocks from none None = refl
below_end blocks from none (Some x) = elim (cases_lt x from) [
  | inl l ↦ ap (λ t. t && has blocks x) (lt-ltb x from l)
  | inr past ↦ nothing_and (nat_lt x from) (has blocks x) (none x past) ∙ sym (none x past)
]

-- the members of blocks with a property are those whose block has it
pub are_of_blocks : (block : List (Option ℕ)) (P : ℕ → Type 0) (blocks nodes : List ℕ) → ((b : ℕ) → IsTrue (has blocks b) → P b) → ((b : ℕ) → P b → IsTrue (has blocks b))
    → IsStrictlyIncreasing nodes → ((n : ℕ) → has nodes n ≡ is_in_blocks blocks (at block n)) → AreOfBlocks block P nodes
are_of_blocks block P blocks nodes get put rising is = record {
  rising = rising;
  sound = λ n m. found n (at block n) refl (sym (is n) ∙ m);
  complete = λ n b e p. is n ∙ ap (is_in_blocks blocks) e ∙ put b p;
}
  where
    found : (n : ℕ) (o : Option ℕ) → at block n ≡ o → is_in_blocks blocks o ≡ true → (b : ℕ) × (at block n ≡ Some b) × P b
    found n None e h = cc
    found n (Some b) e h = (b, e, get b h)
