-- Tables of a partition, filled block by block.
use Rattle.std.proofs.Common.{◌≡◌, ℕ, ◌+◌, ◌≤◌, List, length, Option, Some, None, is_some, sym, ◌∙◌, ap, inl, inr, slice_get, arith, nat_lt, nat_eq, if◌then◌else◌, true, false}
use Rattle.std.proofs.lemmas.Bool.{cases_Bool, cases_lt, lt-ltb, le-ltb}
use Rattle.std.proofs.lemmas.Bool.Decides.{Decides-eqb}
use Rattle.std.proofs.lemmas.Option.{slice_get_past}
use Rattle.graph_spec.specs.Shapes.{Shape}
use Rattle.graph_spec.specs.Members.{at}
use Rattle.bisim_spec.specs.Partitions.{IsPartition, Agrees}
use Rattle.block_partition.specs.FilledTables.{SameBlocks}

pub partition_moved : (s : Shape) (xs ys : List (Option ℕ)) → SameBlocks xs ys → IsPartition s ys → IsPartition s xs
partition_moved s xs ys same p = record {
  live = λ n h. ap is_some (same n) ∙ p.live n h;
  only = λ n h. p.only n (sym (ap is_some (same n)) ∙ h);
}

pub agrees_moved : (s : Shape) (xs ys : List (Option ℕ)) (R : ℕ → ℕ → Type 0) → SameBlocks xs ys → Agrees s ys R → Agrees s xs R
agrees_moved s xs ys R same a = record {
  partition = partition_moved s xs ys same a.partition;
  related = λ u v t. a.related u v (t.0, sym (same u) ∙ t.1, sym (same v) ∙ t.2);
  grouped = λ u v nu nv h. let t = a.grouped u v nu nv h in (t.0, same u ∙ t.1, same v ∙ t.2);
}

-- one more block has its label
pub labels_more : (old new : List (Option ℕ)) (labels : List ℕ) (count label : ℕ) → ((b : ℕ) → at old b ≡ (if nat_lt b count then slice_get labels b else None))
    → ((b : ℕ) → at new b ≡ (if nat_eq b count then Some label else at old b)) → slice_get labels count ≡ Some label
    → (b : ℕ) → at new b ≡ (if nat_lt b (count + 1) then slice_get labels b else None)
labels_more old new labels count label before added is b = elim (cases_lt b count) [
  | inl l ↦
      added b ∙ ap (λ t. if t then Some label else at old b) (other b count (λ e. omega (arith, l, e))) ∙ before b
      ∙ ap (λ t. if t then slice_get labels b else None) (lt-ltb b count l ∙ sym (lt-ltb b (count + 1) (omega (arith, l))))
  | inr past ↦ elim (cases_lt b (count + 1)) [
    | inl last ↦
        (let here : b ≡ count = omega (arith, past, last) in
        added b ∙ ap (λ t. if t then Some label else at old b) (same b count here) ∙ sym is ∙ ap (slice_get labels) (sym here)
        ∙ sym (ap (λ t. if t then slice_get labels b else None) (lt-ltb b (count + 1) last)))
    | inr beyond ↦
        added b ∙ ap (λ t. if t then Some label else at old b) (other b count (λ e. omega (arith, beyond, e))) ∙ before b
        ∙ ap (λ t. if t then slice_get labels b else None) (le-ltb b count past ∙ sym (le-ltb b (count + 1) beyond))
  ]
]
  where
    same : (x y : ℕ) → x ≡ y → nat_eq x y ≡ true
    same x y e = (Decides-eqb x y).1 e

    other : (x y : ℕ) → (x ≡ y → ⊥) → nat_eq x y ≡ false
    other x y h = elim (cases_Bool (nat_eq x y)) [ inl e ↦ absurd (h ((Decides-eqb x y).0 e)) | inr e ↦ e ]

pub labels_all : (blocks : List (Option ℕ)) (labels : List ℕ) (count : ℕ) → ((b : ℕ) → at blocks b ≡ (if nat_lt b count then slice_get labels b else None)) → length labels ≤ count
    → (b : ℕ) → at blocks b ≡ slice_get labels b
labels_all blocks labels count have all b = elim (cases_lt b count) [
  | inl l ↦ have b ∙ ap (λ t. if t then slice_get labels b else None) (lt-ltb b count l)
  | inr past ↦ have b ∙ ap (λ t. if t then slice_get labels b else None) (le-ltb b count past) ∙ sym (slice_get_past labels b (omega (arith, past, all)))
]
