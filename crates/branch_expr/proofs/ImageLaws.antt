-- What the small automaton finds.
use Rattle.std.proofs.Common.{◌≡◌, ◌↔◌, ℕ, zero, suc, ◌<◌, ◌⊎◌, inl, inr, List, Bool, refl, sym, ap, ◌∙◌, subst, arith, cond, Option, Some, IsTrue}
use Rattle.std.specs.Prelude.{slice_get, is_some, IsSome}
use Rattle.std.proofs.lemmas.Bool.{ne_eqb}
use Rattle.graph_spec.specs.Members.{has}
use Rattle.path_automaton.specs.declared.state.State.{State}
use Rattle.path_automaton.specs.declared.state.State.TheVariants.{End, Any}
use Rattle.path_automaton.specs.ProductSteps.{Succeeds, leads, Reached, begin, onward, AreEnds}
use Rattle.branch_spec.specs.BranchAnswers.{Reaches, direct, further}
use Rattle.branch_expr.specs.EdgeAutomata.{descendant_states}

module _ (size : ℕ) (label_at : ℕ → Option ℕ) (edge : ℕ → ℕ → Bool) (First : ℕ → Type 0)
    (below : (n : ℕ) → IsSome (label_at n) → n < size) (ends : (u v : ℕ) → IsTrue (edge u v) → IsSome (label_at u) × IsSome (label_at v))
    (nodes : (v : ℕ) → First v → IsSome (label_at v)) where
  inside : (v c : ℕ) → v < size → leads size label_at edge v c ≡ edge v c
  inside v c h = ap (λ b. cond b (is_some (label_at c)) (edge v c)) (ne_eqb v size (λ e. absurd (omega arith)))

  at_far : ℕ → Option State
  at_far k = slice_get descendant_states k

  -- one edge or more

  abbrev Far : ℕ → Type 0
  Far c = (v : ℕ) × First v × Reaches edge v c

  last_node : (u v : ℕ) → Reaches edge u v → IsSome (label_at v)
  last_node u v (direct a b e) = (ends u v e).1
  last_node u v (further a w b r e) = (ends w v e).1

  abbrev GoodFar : ℕ → ℕ → Type 0
  GoodFar zero c = Far c
  GoodFar (suc zero) c = First c ⊎ Far c
  GoodFar (suc (suc zero)) c = Far c
  GoodFar (suc (suc (suc k))) c = ⊥

  far_step : (v c : ℕ) → First v ⊎ Far v → IsTrue (leads size label_at edge v c) → Far c
  far_step v c (inl f) l = (v, f, direct v c (sym (inside v c (below v (nodes v f))) ∙ l))
  far_step v c (inr f) l = (f.0, f.1, further f.0 v c f.2 (sym (inside v c (below v (last_node f.0 v f.2))) ∙ l))

  far_fork : (v s2 v2 : ℕ) → Far v → ((s2 ≡ 0) ⊎ (s2 ≡ 1)) × (v2 ≡ v) → GoodFar s2 v2
  far_fork v s2 v2 g (inl e, here) = subst (λ x. GoodFar x v2) (sym e) (subst Far (sym here) g)
  far_fork v s2 v2 g (inr e, here) = subst (λ x. GoodFar x v2) (sym e) (inr (subst Far (sym here) g))

  far_next : (s v s2 v2 : ℕ) → GoodFar s v → Succeeds size label_at edge (slice_get descendant_states s) v s2 v2 → GoodFar s2 v2
  far_next zero v s2 v2 g k = absurd k
  far_next (suc zero) v s2 v2 g k = subst (λ x. GoodFar x v2) (sym k.0) (far_step v v2 g k.1)
  far_next (suc (suc zero)) v s2 v2 g k = far_fork v s2 v2 g k
  far_next (suc (suc (suc n))) v s2 v2 g k = absurd g

  far_good : (s v : ℕ) → Reached (λ k. slice_get descendant_states k) size label_at edge First 1 s v → GoodFar s v
  far_good s v (begin v0 f) = inl f
  far_good s v (onward s0 v0 s1 v1 r k) = far_next s0 v0 s v (far_good s0 v0 r) k

  far_end : (s v : ℕ) → slice_get descendant_states s ≡ Some End → GoodFar s v → Far v
  far_end zero v e g = g
  far_end (suc zero) v e g = absurd (any_end e)
    where
      any_end : Some (Any 2) ≡ Some End → ⊥
      any_end e = cc
  far_end (suc (suc zero)) v e g = g
  far_end (suc (suc (suc k))) v e g = absurd g

  far_reached : (u v : ℕ) → First u → Reaches edge u v → Reached (λ k. slice_get descendant_states k) size label_at edge First 1 2 v
  far_reached u v f (direct a b e) = onward 1 u 2 v (begin u f) (refl, inside u v (below u (nodes u f)) ∙ e)
  far_reached u v f (further a w b r e) =
      onward 1 w 2 v (onward 2 w 1 w (far_reached u w f r) (inr refl, refl)) (refl, inside w v (below w (last_node u w r)) ∙ e)

  pub far_image : (found : List ℕ) → AreEnds (λ k. slice_get descendant_states k) size label_at edge First 1 found → (c : ℕ) → IsTrue (has found c) ↔ Far c
  far_image found a c = (
    λ h. let f = a.sound c h in far_end f.0 c f.1 (far_good f.0 c f.3),
    λ n. a.complete 0 c refl (below c (last_node n.0 c n.2)) (onward 2 c 0 c (far_reached n.0 c n.1 n.2) (inl refl, refl)),
  )

-- what is reached against the edges reaches back along them

in_front : (edge : ℕ → ℕ → Bool) (u w v : ℕ) → IsTrue (edge u w) → Reaches edge w v → Reaches edge u v
in_front edge u w v e (direct a b d) = further u w v (direct u w e) d
in_front edge u w v e (further a x b r d) = further u x v (in_front edge u w x e r) d

pub reaches_back : (edge : ℕ → ℕ → Bool) (u v : ℕ) → Reaches (λ x y. edge y x) u v → Reaches edge v u
reaches_back edge u v (direct a b e) = direct v u e
reaches_back edge u v (further a w b r e) = in_front edge v w u e (reaches_back edge u w r)
