-- A target that goes to a block of its own.
use Rattle.std.proofs.Common.{◌≡◌, ◌≢◌, ℕ, List, [], ◌∷◌, Option, Some, IsTrue, sym, ◌∙◌, ap, subst, true, false, Bool, true≢false, refl}
use Rattle.std.specs.Prelude.{nat_eq, ◌||◌}
use Rattle.std.specs.List.{IsDistinct}
use Rattle.std.proofs.lemmas.Bool.Decides.{Decides-eqb}
use Rattle.graph_spec.specs.Members.{at, has}
use Rattle.bisim_spec.specs.Partitions.{Together}
use Rattle.one_split.specs.NodeTargetBlocks.{AreBlocks}

none_listed : (n : ℕ) → IsTrue (has [] n) → ⊥
none_listed n h = true≢false (sym h)

no_numbers : IsDistinct nat_eq []
unfolding IsDistinct
no_numbers = tt

-- p2 is p once t is put into b, which had no members
pub record IsApart (p p2 : List (Option ℕ)) (t b : ℕ) : Type 0 where
  pub there : at p2 t ≡ Some b
  pub others : (m : ℕ) → m ≢ t → at p2 m ≡ at p m
  pub empty : (m : ℕ) → at p m ≡ Some b → ⊥

only_b : (b c : ℕ) → has (b ∷ []) c ≡ true → c ≡ b
only_b b c h = (Decides-eqb c b).0 (sym (or_none (nat_eq c b)) ∙ h)
  where
    or_none : (x : Bool) → (x || false) ≡ x
    or_none true = refl
    or_none false = refl

pub none_once : (xs : List ℕ) → xs ≡ [] → IsDistinct nat_eq xs
none_once xs e = subst (IsDistinct nat_eq) (sym e) no_numbers

pub blocks_none : (labels : ℕ → Option ℕ) (new_blocks : List ℕ) → new_blocks ≡ [] → AreBlocks labels new_blocks
blocks_none labels new_blocks e = record { once = none_once new_blocks e; some = λ b h. absurd (none_listed b (sym (ap (λ xs. has xs b) e) ∙ h)) }

-- a target whose block has no other member
pub alone_from : (p : List (Option ℕ)) (t own : ℕ) → at p t ≡ Some own → ((n : ℕ) → at p n ≡ Some own → IsTrue (has (t ∷ []) n)) → (n : ℕ) → Together p n t → n ≡ t
alone_from p t own found only n k = only_b t n (only n (let a = k.1 in let b = k.2 in cc))
