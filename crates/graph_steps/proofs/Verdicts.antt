-- What the steps come to, one more at a time.
use Rattle.std.proofs.Common.{◌≡◌, ℕ, zero, suc, ◌+◌, ◌<◌, ◌≤◌, Bool, true, false, List, [], ◌∷◌, ◌++◌, length, Ok, Err, refl, sym, ap, ◌∙◌, arith, take, get_or}
use Rattle.std.specs.Prelude.{◌||◌, not, nat_le, if◌then◌else◌}
use Rattle.std.proofs.lemmas.Bool.Decides.{nat_tests}
use Rattle.graph_spec.specs.declared.limits.Limits.{Limits}
use Rattle.graph_spec.specs.declared.refusal.Refusal.{Refusal}
use Rattle.graph_spec.specs.declared.refusal.Refusal.TheVariants.{Limit}
use Rattle.graph_spec.specs.Graphs.{Graph, IsGraph}
use Rattle.change_spec.specs.Steps.{made, after, and_then, apply_step, apply_all, apply, is_new, is_idle, MOST_STEPS}
use Rattle.change_spec.proofs.Prefixes.{new_more, apply_joined}
use Rattle.graph_steps.specs.declared.changes.Step.{Step as Asked}
use Rattle.graph_steps.specs.declared.changes.Verdict.TheVariants.{New, Same}
use Rattle.graph_steps.specs.StepLists.{step_of, steps_of}
use Rattle.graph_steps.specs.Verdicts.{Judges}
use Rattle.graph_steps.proofs.IdleSteps.{unaltered}
use Rattle.graph_steps.proofs.PrefixSteps.{more_at, after_at}

-- the next step is accepted
pub applied_next : (ss : List Asked) (i : ℕ) (s : Asked) (g : Graph) (limits : Limits) → i < length ss → s ≡ get_or ss i s
    → apply_all (steps_of (take i ss)) g limits ≡ Ok (after (steps_of (take i ss)) g)
    → apply_step (step_of s) (after (steps_of (take i ss)) g) limits ≡ Ok (made (step_of s) (after (steps_of (take i ss)) g))
    → apply_all (steps_of (take (i + 1) ss)) g limits ≡ Ok (after (steps_of (take (i + 1) ss)) g)
applied_next ss i s g limits h e prefix one =
    ap (λ c. apply_all c g limits) (more_at ss i s h e)
    ∙ apply_joined (steps_of (take i ss)) (step_of s ∷ []) g (after (steps_of (take i ss)) g) limits prefix
    ∙ ap (λ r. and_then r (λ k. Ok k)) one
    ∙ ap Ok (sym (after_at ss i s g h e))

-- the steps behind a place
abbrev behind : List Asked → ℕ → List Asked
behind [] i = []
behind (x ∷ xs) zero = xs
behind (x ∷ xs) (suc i) = behind xs i

-- the steps are those in front of a place, the one there, and the others
split_at : (ss : List Asked) (i : ℕ) (s : Asked) → i < length ss → s ≡ get_or ss i s → steps_of ss ≡ steps_of (take i ss) ++ step_of s ∷ steps_of (behind ss i)
split_at [] i s h e = absurd (omega (arith, h))
split_at (x ∷ xs) zero s h e = ap (λ y. step_of y ∷ steps_of xs) (sym e)
split_at (x ∷ xs) (suc i) s h e = ap (λ c. step_of x ∷ c) (split_at xs i s (omega (arith, h)) e)

-- a step that is refused
pub refused_at : (ss : List Asked) (i : ℕ) (s : Asked) (g : Graph) (limits : Limits) (r : Refusal) → i < length ss → s ≡ get_or ss i s
    → apply_all (steps_of (take i ss)) g limits ≡ Ok (after (steps_of (take i ss)) g)
    → apply_step (step_of s) (after (steps_of (take i ss)) g) limits ≡ Err r → apply_all (steps_of ss) g limits ≡ Err r
refused_at ss i s g limits r h e prefix one =
    ap (λ c. apply_all c g limits) (split_at ss i s h e)
    ∙ apply_joined (steps_of (take i ss)) (step_of s ∷ steps_of (behind ss i)) g (after (steps_of (take i ss)) g) limits prefix
    ∙ ap (λ q. and_then q (λ k. apply_all (steps_of (behind ss i)) k limits)) one

pub new_next : (ss : List Asked) (i : ℕ) (s : Asked) (g : Graph) (new alters : Bool) → i < length ss → s ≡ get_or ss i s → new ≡ is_new (steps_of (take i ss)) g
    → alters ≡ not (is_idle (step_of s) (after (steps_of (take i ss)) g)) → (new || alters) ≡ is_new (steps_of (take (i + 1) ss)) g
new_next ss i s g new alters h e n a =
    ap (λ b. b || alters) n ∙ ap (λ b. is_new (steps_of (take i ss)) g || b) a ∙ sym (new_more (steps_of (take i ss)) (step_of s) g)
    ∙ ap (λ c. is_new c g) (sym (more_at ss i s h e))

-- ---- a whole change

length_of : (ss : List Asked) → length (steps_of ss) ≡ length ss
length_of [] = refl
length_of (x ∷ xs) = ap suc (length_of xs)

few_enough : (ss : List Asked) → length ss ≤ 1024 → nat_le (length (steps_of ss)) MOST_STEPS ≡ true
few_enough ss h = ap (λ n. nat_le n MOST_STEPS) (length_of ss) ∙ test (length ss) h
  where
    test : (n : ℕ) → n ≤ 1024 → nat_le n 1024 ≡ true
    test n h = grind (arith, nat_tests)

pub few_apply : (ss : List Asked) (g : Graph) (limits : Limits) → length ss ≤ 1024 → apply (steps_of ss) g limits ≡ apply_all (steps_of ss) g limits
few_apply ss g limits h = ap (λ b. if b then apply_all (steps_of ss) g limits else Err Limit) (few_enough ss h)

pub judged : (ss : List Asked) (g : Graph) (limits : Limits) (new : Bool) → IsGraph g → length ss ≤ 1024 → apply_all (steps_of ss) g limits ≡ Ok (after (steps_of ss) g)
    → new ≡ is_new (steps_of ss) g → Judges (steps_of ss) g limits (Ok (if new then New else Same))
judged ss g limits true graph h a n = (sym n, few_apply ss g limits h ∙ a)
judged ss g limits false graph h a n = (sym n, few_apply ss g limits h ∙ a ∙ ap Ok (unaltered (steps_of ss) g graph (sym n)))
