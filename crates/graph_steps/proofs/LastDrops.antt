-- Steps that take a node away, and that no step behind them names it.
use Rattle.std.proofs.Common.{◌≡◌, ℕ, zero, suc, ◌<◌, ◌≤◌, true, false, List, [], ◌∷◌, length, drop, refl, sym, ap, ◌∙◌, arith, inl, inr, true≢false}
use Rattle.std.specs.Prelude.{◌||◌}
use Rattle.std.proofs.lemmas.Bool.{cases_Bool, or_parts}
use Rattle.change_spec.specs.Steps.{Step, node, link, unlink, drop as drop_step, relabel}
use Rattle.change_spec.specs.Named.{names, takes_away, is_named, is_dropped}
use Rattle.graph_steps.specs.NamedSteps.{DropsLast}
use Rattle.graph_steps.specs.StepLinks.{names_at, takes_at}

pub take_past : (c : List Step) (i n : ℕ) → length c ≤ i → takes_at c i n ≡ false
take_past [] i n h = refl
take_past (s ∷ ss) zero n h = absurd (omega (arith, h))
take_past (s ∷ ss) (suc i) n h = take_past ss i n (omega (arith, h))

-- a step that takes the node away names it
pub takes_named : (s : Step) (n : ℕ) → takes_away s n ≡ true → names n s ≡ true
takes_named (node t) n h = absurd (true≢false (sym h))
takes_named (link u v) n h = absurd (true≢false (sym h))
takes_named (unlink u v) n h = absurd (true≢false (sym h))
takes_named (drop_step u) n h = h
takes_named (relabel u t) n h = absurd (true≢false (sym h))

pub named_there : (c : List Step) (i n : ℕ) → takes_at c i n ≡ true → names_at c i n ≡ true
named_there [] i n h = absurd (true≢false (sym h))
named_there (s ∷ ss) zero n h = takes_named s n h
named_there (s ∷ ss) (suc i) n h = named_there ss i n h

-- ---- no step behind it names the node

unnamed_there : (c : List Step) (i n : ℕ) → is_named c n ≡ false → names_at c i n ≡ false
unnamed_there [] i n h = refl
unnamed_there (s ∷ ss) zero n h = (or_parts (names n s) (is_named ss n) h).0
unnamed_there (s ∷ ss) (suc i) n h = unnamed_there ss i n (or_parts (names n s) (is_named ss n) h).1

pub behind_take : (c : List Step) (i k n : ℕ) → DropsLast c → takes_at c i n ≡ true → i < k → names_at c k n ≡ false
behind_take [] i k n last h b = refl
behind_take (s ∷ ss) zero zero n last h b = absurd (omega (arith, b))
behind_take (s ∷ ss) zero (suc k) n last h b = unnamed_there ss k n (last.0 n h)
behind_take (s ∷ ss) (suc i) zero n last h b = absurd (omega (arith, b))
behind_take (s ∷ ss) (suc i) (suc k) n last h b = behind_take ss i k n last.1 h (omega (arith, b))

-- ---- some step from a place on takes the node away

pub taken_at : (c : List Step) (from n : ℕ) → is_dropped (drop from c) n ≡ true → (i : ℕ) × (from ≤ i) × (takes_at c i n ≡ true)
taken_at [] zero n h = absurd (true≢false (sym h))
taken_at [] (suc from) n h = absurd (true≢false (sym h))
taken_at (s ∷ ss) zero n h = elim (cases_Bool (takes_away s n)) [
  | inl on ↦ (0, omega arith, on)
  | inr off ↦ (let r = taken_at ss zero n (sym (ap (λ b. b || is_dropped ss n) off) ∙ h) in (suc r.0, omega arith, r.2))
]
taken_at (s ∷ ss) (suc from) n h = (let r = taken_at ss from n h in let low = r.1 in (suc r.0, omega (arith, low), r.2))

pub taken_from : (c : List Step) (from i n : ℕ) → from ≤ i → takes_at c i n ≡ true → is_dropped (drop from c) n ≡ true
taken_from [] from i n low h = absurd (true≢false (sym h))
taken_from (s ∷ ss) zero zero n low h = ap (λ b. b || is_dropped ss n) h
taken_from (s ∷ ss) zero (suc i) n low h = elim (cases_Bool (takes_away s n)) [
  | inl on ↦ ap (λ b. b || is_dropped ss n) on
  | inr off ↦ ap (λ b. b || is_dropped ss n) off ∙ taken_from ss zero i n (omega arith) h
]
taken_from (s ∷ ss) (suc from) zero n low h = absurd (omega (arith, low))
taken_from (s ∷ ss) (suc from) (suc i) n low h = taken_from ss from i n (omega (arith, low)) h
