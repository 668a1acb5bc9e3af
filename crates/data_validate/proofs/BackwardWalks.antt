-- Walks that end in a set lie in what leads to it.
use Rattle.std.proofs.Common.{◌≡◌, ℕ, ◌+◌, ◌<◌, ◌≤◌, List, [], ◌∷◌, length, refl, sym, ap, ◌∙◌, subst, arith, Option, Some, None, Bool, true, false, cond, true≢false, IsTrue}
use Rattle.std.specs.Prelude.{◌&&◌, slice_get, option_and_then, IsSome}
use Rattle.graph_spec.specs.Members.{has}
use Rattle.graph_spec.specs.Shapes.{Shape, shape_by}
use Rattle.graph_spec.specs.Walks.{Leads}
use Rattle.path_spec.specs.Trees.{Expr}
use Rattle.path_spec.specs.Matches.{Word, Matches}
use Rattle.path_spec.specs.PathAnswers.{IsAnswer, AreAnswers}
use Rattle.path_spec.specs.PartialGraphs.{part_of}
use Rattle.data_validate.specs.Ancestors.{HasWalk, IsFew, AreAncestors}

both_true : (a b : Bool) → (a && b) ≡ true → (a ≡ true) × (b ≡ true)
both_true true b h = (refl, h)
both_true false b h = absurd (true≢false (sym h))

module _ (s : Shape) (keeps : ℕ → Bool) where
  abbrev part : Shape
  part = part_of keeps s

  text_out : (n : ℕ) (t : List ℕ) → part.label n ≡ Some t → s.label n ≡ Some t
  text_out n t = elim (keeps n) as (λ b. cond b (s.label n) None ≡ Some t → s.label n ≡ Some t) [
    | true ↦ λ h. h
    | false ↦ λ h. cc
  ]

  text_in : (n : ℕ) (t : List ℕ) → keeps n ≡ true → s.label n ≡ Some t → part.label n ≡ Some t
  text_in n t k h = ap (λ b. cond b (s.label n) None) k ∙ h

  edge_out : (u v : ℕ) → part.edge u v ≡ true → s.edge u v ≡ true
  edge_out u v h = (both_true (keeps v) (s.edge u v) (both_true (keeps u) (keeps v && s.edge u v) h).1).1

  edge_in : (u v : ℕ) → keeps u ≡ true → keeps v ≡ true → s.edge u v ≡ true → part.edge u v ≡ true
  edge_in u v ku kv e = ap (λ b. b && (keeps v && s.edge u v)) ku ∙ ap (λ b. b && s.edge u v) kv ∙ e

  pub walk_out : (ts : Word) (u v : ℕ) → Leads part u ts v → Leads s u ts v
  walk_out [] u v h = absurd h
  walk_out (t ∷ []) u v h = (text_out u t h.0, h.1)
  walk_out (t ∷ r ∷ ts) u v (lab, w, e, more) = (text_out u t lab, w, edge_out u w e, walk_out (r ∷ ts) w v more)

  -- a walk with one node more than edges
  leading_of : (t : List ℕ) (ts : Word) (u v : ℕ) → Leads s u (t ∷ ts) v → HasWalk s.edge (length ts) u v
  leading_of t [] u v h = h.1
  leading_of t (r ∷ ts) u v (lab, w, e, more) = (w, e, leading_of r ts w v more)

  pub walk_in : (ts : Word) (u v : ℕ) → Leads s u ts v → ((k x : ℕ) → k + 1 ≤ length ts → HasWalk s.edge k x v → keeps x ≡ true) → Leads part u ts v
  walk_in [] u v h near = absurd h
  walk_in (t ∷ []) u v h near = (text_in u t (near 0 u (omega arith) h.1) h.0, h.1)
  walk_in (t ∷ r ∷ ts) u v (lab, w, e, more) near =
      let here : keeps u ≡ true = near (length (r ∷ ts)) u (omega arith) (leading_of t (r ∷ ts) u v (lab, w, e, more)) in
      let next : keeps w ≡ true = near (length ts) w (omega arith) (leading_of r ts w v more) in
      (text_in u t here lab, w, edge_in u w here next e, walk_in (r ∷ ts) w v more (λ k x le l. near k x (omega (arith, le)) l))

  end_text : (ts : Word) (u v : ℕ) → Leads s u ts v → (t : List ℕ) × (s.label v ≡ Some t)
  end_text [] u v h = absurd h
  end_text (t ∷ []) u v h = (t, subst (λ x. s.label x ≡ Some t) h.1 h.0)
  end_text (t ∷ r ∷ ts) u v h = end_text (r ∷ ts) h.1 v h.3

module _ (texts : List (List ℕ)) (size : ℕ) (label_at : ℕ → Option ℕ) (edge : ℕ → ℕ → Bool) (e : Expr) (most : Option ℕ) (set near nodes : List ℕ) where
  abbrev whole : Shape
  whole = shape_by texts size label_at edge

  node_of : (v : ℕ) (t : List ℕ) → whole.label v ≡ Some t → IsSome (label_at v)
  node_of v t = elim (label_at v) as (λ o. option_and_then (λ l. slice_get texts l) o ≡ Some t → IsSome o) [
    | None ↦ λ h. cc
    | Some l ↦ λ h. refl
  ]

  pub near_sound : AreAnswers (part_of (has near) whole) e nodes → (v : ℕ) → IsTrue (has nodes v) → IsAnswer whole e v
  near_sound a v h = let f = a.sound v h in (f.0, f.1, f.2, walk_out whole (has near) f.0 f.2 v f.3)

  pub near_complete : AreAnswers (part_of (has near) whole) e nodes → ((w : Word) (k : ℕ) → Matches e w → k < length w → IsFew most k) → AreAncestors label_at edge most set near
      → (v : ℕ) → IsTrue (has set v) → IsAnswer whole e v → IsTrue (has nodes v)
  near_complete a few lead v there (w, matches, u, walk) =
      let t = end_text whole (has near) w u v walk in
      let node : IsSome (label_at v) = node_of v t.0 t.1 in
      a.complete v (
        w,
        matches,
        u,
        walk_in whole (has near) w u v walk
            (λ k x le l. lead.has_all k x v (few w k matches (omega (arith, le))) there node l),
      )
