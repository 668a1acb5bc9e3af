-- How steps are stored.
use Rattle.std.specs.Prelude.{ℕ, ◌≡◌, ◌⊎◌, List, refl}
use Rattle.std.specs.Coded.{Coded, code_by, coded×, coded⊎, coded_ℕ, coded_list}
use Rattle.std.proofs.Common.{inl, inr}
use Rattle.change_spec.specs.Steps.{Step, node, link, unlink, drop, relabel}

-- a step is stored as its label, as its pair of nodes, as its node, or as its node and its label
abbrev Parts : Type 0
Parts = List ℕ ⊎ ((ℕ × ℕ) ⊎ ((ℕ × ℕ) ⊎ (ℕ ⊎ (ℕ × List ℕ))))

abbrev step_parts : Step → Parts
step_parts (node t) = inl t
step_parts (link u v) = inr (inl (u, v))
step_parts (unlink u v) = inr (inr (inl (u, v)))
step_parts (drop u) = inr (inr (inr (inl u)))
step_parts (relabel u t) = inr (inr (inr (inr (u, t))))

abbrev with_parts : Parts → Step
with_parts (inl t) = node t
with_parts (inr (inl e)) = link e.0 e.1
with_parts (inr (inr (inl e))) = unlink e.0 e.1
with_parts (inr (inr (inr (inl u)))) = drop u
with_parts (inr (inr (inr (inr e)))) = relabel e.0 e.1

-- the parts of a step make the step again
pub whole_again : (s : Step) → with_parts (step_parts s) ≡ s
whole_again (node t) = refl
whole_again (link u v) = refl
whole_again (unlink u v) = refl
whole_again (drop u) = refl
whole_again (relabel u t) = refl

-- a step is stored as its parts
abbrev pub step_code : Coded Step
step_code =
    code_by Parts
    (coded⊎ (coded_list coded_ℕ)
    (coded⊎ (coded× coded_ℕ coded_ℕ)
    (coded⊎ (coded× coded_ℕ coded_ℕ)
    (coded⊎ coded_ℕ (coded× coded_ℕ (coded_list coded_ℕ))))))
    step_parts with_parts whole_again

-- steps are stored one by one, in their order
abbrev pub steps_code : Coded (List Step)
steps_code = coded_list step_code
