-- The answers over the members of a set.
use Rattle.std.proofs.Common.{◌≡◌, ℕ, List, [], ◌∷◌, refl, sym, ap, ◌∙◌, Option, Some, None, Bool, true, false, cond, true≢false}
use Rattle.std.specs.Prelude.{◌&&◌, slice_get, option_and_then, IsSome, is_some}
use Rattle.graph_spec.specs.Shapes.{Shape, shape_by}
use Rattle.graph_spec.specs.Walks.{Leads}
use Rattle.path_spec.specs.Trees.{Expr}
use Rattle.path_spec.specs.Matches.{Word}
use Rattle.path_spec.specs.PathAnswers.{AreAnswers}
use Rattle.path_spec.specs.PartialGraphs.{part_of}
use Rattle.path_automaton.specs.ProductSteps.{label_in, edge_in}
use Rattle.path_expr.proofs.ProductSearch.{IsTabled}

both_true : (a b : Bool) → (a && b) ≡ true → (a ≡ true) × (b ≡ true)
both_true true b h = (refl, h)
both_true false b h = absurd (true≢false (sym h))

module _ (texts : List (List ℕ)) (size : ℕ) (label_at : ℕ → Option ℕ) (edge : ℕ → ℕ → Bool) (keeps : ℕ → Bool) where
  abbrev whole : Shape
  whole = shape_by texts size label_at edge

  abbrev part : Shape
  part = part_of keeps whole

  abbrev numbered : Shape
  numbered = shape_by texts size (label_in keeps label_at) (edge_in keeps edge)

  label_kept : (n : ℕ) → keeps n ≡ true → label_in keeps label_at n ≡ label_at n
  label_kept n k = ap (λ b. cond b (label_at n) None) k

  kept_number : (n l : ℕ) → label_in keeps label_at n ≡ Some l → (keeps n ≡ true) × (label_at n ≡ Some l)
  kept_number n l = elim (keeps n) as (λ b. cond b (label_at n) None ≡ Some l → (b ≡ true) × (label_at n ≡ Some l)) [
    | true ↦ λ h. (refl, h)
    | false ↦ λ h. cc
  ]

  kept_node : (n : ℕ) → IsSome (label_in keeps label_at n) → (keeps n ≡ true) × IsSome (label_at n)
  kept_node n = elim (keeps n) as (λ b. IsSome (cond b (label_at n) None) → (b ≡ true) × IsSome (label_at n)) [
    | true ↦ λ h. (refl, h)
    | false ↦ λ h. absurd (true≢false (sym h))
  ]

  kept_edge : (u v : ℕ) → edge_in keeps edge u v ≡ true → (keeps u ≡ true) × (keeps v ≡ true) × (edge u v ≡ true)
  kept_edge u v h =
      let a = both_true (keeps u) (keeps v && edge u v) h in
      let b = both_true (keeps v) (edge u v) a.1 in
      (a.0, b.0, b.1)

  -- labels by the numbers of the members are those of the part
  text_is : (n : ℕ) → numbered.label n ≡ part.label n
  text_is n = elim (keeps n) as (λ b. option_and_then (λ l. slice_get texts l) (cond b (label_at n) None) ≡ cond b (whole.label n) None) [
    | true ↦ refl
    | false ↦ refl
  ]

  walk_as : (s t : Shape) → ((n : ℕ) → s.label n ≡ t.label n) → ((u v : ℕ) → s.edge u v ≡ t.edge u v) → (ts : Word) (u v : ℕ) → Leads s u ts v → Leads t u ts v
  walk_as s t labels edges [] u v h = absurd h
  walk_as s t labels edges (r ∷ []) u v h = (sym (labels u) ∙ h.0, h.1)
  walk_as s t labels edges (r ∷ q ∷ ts) u v (lab, w, e, more) = (sym (labels u) ∙ lab, w, sym (edges u w) ∙ e, walk_as s t labels edges (q ∷ ts) w v more)

  pub answers_of_part : (e : Expr) (nodes : List ℕ) → AreAnswers numbered e nodes → AreAnswers part e nodes
  answers_of_part e nodes a = record {
    rising = a.rising;
    sound = λ v h. let f = a.sound v h in (f.0, f.1, f.2, walk_as numbered part text_is (λ u w. refl) f.0 f.2 v f.3);
    complete = λ v f. a.complete v (f.0, f.1, f.2, walk_as part numbered (λ n. sym (text_is n)) (λ u w. refl) f.0 f.2 v f.3);
  }

  pub tabled_in : IsTabled texts size label_at edge → IsTabled texts size (label_in keeps label_at) (edge_in keeps edge)
  tabled_in t = record {
    distinct = t.distinct;
    labelled = λ n l h. t.labelled n l (kept_number n l h).1;
    below = λ n h. t.below n (kept_node n h).1;
    ends = λ u v h.
        let k = kept_edge u v h in
        let n = t.ends u v k.2 in
        (ap is_some (label_kept u k.0) ∙ n.0, ap is_some (label_kept v k.1) ∙ n.1);
  }
