-- The first steps of a list, and the others.
use Rattle.std.proofs.Common.{◌≡◌, Bool, true, false, List, [], ◌∷◌, ◌++◌, Ok, refl, sym, ap, ◌∙◌}
use Rattle.std.specs.Prelude.{◌||◌, not}
use Rattle.graph_spec.specs.declared.limits.Limits.{Limits}
use Rattle.graph_spec.specs.Graphs.{Graph}
use Rattle.change_spec.proofs.StepGraphs.{first_made}
use Rattle.change_spec.specs.Steps.{Step, made, after, and_then, apply_step, apply_all, is_new, is_idle}

pub after_joined : (a b : List Step) (g : Graph) → after (a ++ b) g ≡ after b (after a g)
after_joined [] b g = refl
after_joined (s ∷ ss) b g = after_joined ss b (made s g)

-- one step more
pub after_more : (c : List Step) (s : Step) (g : Graph) → after (c ++ s ∷ []) g ≡ made s (after c g)
after_more c s g = after_joined c (s ∷ []) g

or_joined : (a b c : Bool) → ((a || b) || c) ≡ (a || (b || c))
or_joined true b c = refl
or_joined false b c = refl

pub new_more : (c : List Step) (s : Step) (g : Graph) → is_new (c ++ s ∷ []) g ≡ (is_new c g || not (is_idle s (after c g)))
new_more [] s g = idle (not (is_idle s g))
  where
    idle : (b : Bool) → (b || false) ≡ b
    idle true = refl
    idle false = refl
new_more (x ∷ xs) s g = ap (λ b. not (is_idle x g) || b) (new_more xs s (made x g)) ∙ sym (or_joined (not (is_idle x g)) (is_new xs (made x g)) (not (is_idle s (after xs (made x g)))))

-- where the first steps are accepted, the outcome is that of the others in the graph that they leave
pub apply_joined : (a b : List Step) (g h : Graph) (limits : Limits) → apply_all a g limits ≡ Ok h → apply_all (a ++ b) g limits ≡ apply_all b h limits
apply_joined [] b g h limits e = (let same : g ≡ h = cc in ap (λ k. apply_all b k limits) same)
apply_joined (s ∷ ss) b g h limits e =
    let first = first_made (apply_step s g limits) (λ k. apply_all ss k limits) h e in
    ap (λ r. and_then r (λ k. apply_all (ss ++ b) k limits)) first.1 ∙ apply_joined ss b first.0 h limits first.2
