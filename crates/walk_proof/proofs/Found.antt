-- What the least list that is read says of walks.
use Rattle.std.proofs.Common.{◌≡◌, ◌∙◌, ap, sym, refl, true≢false, IsTrue, ℕ, ◌<◌, Bool, List, Option, Some, None}
use Rattle.std.specs.Prelude.{option_and_then, slice_get, is_some, IsSome, MatchOption}
use Rattle.graph_spec.specs.Graphs.{Graph, is_live, label_of}
use Rattle.graph_spec.specs.Shapes.{shape_by, shape_of}
use Rattle.label_graph.specs.GraphViews.{label_number, numbered_shape}
use Rattle.path_automaton.specs.declared.state.State.{State}
use Rattle.path_automaton.specs.declared.state.State.TheVariants.{End}
use Rattle.path_spec.specs.Trees.{Expr}
use Rattle.path_spec.specs.PathAnswers.{IsAnswer}
use Rattle.path_expr.specs.ExprAutomata.{Stands}
use Rattle.path_expr.proofs.ProductSearch.{IsTabled}
use Rattle.walk_spec.specs.LeastWalks.{IsLeast}
use Rattle.walk_spec.specs.Ways.{Way}
use Rattle.walk_spec.proofs.ShownAnswers.{answer_shown}
use Rattle.walk_spec.proofs.WayLaws.{shows_way, way_shows}
use Rattle.walk_proof.specs.Layering.{IsLeastWayBy}

-- the label of a live node has a number
pub live_numbered : (g : Graph) (v : ℕ) → numbered_shape g ≡ shape_of g → IsTrue (is_live g v) → IsSome (label_number g v)
live_numbered g v same live = by (label_number g v) (ap (λ s. s.label v) same)
  where
    by : (o : Option ℕ) → option_and_then (λ l. slice_get g.seen l) o ≡ label_of g v → IsSome o
    by None e = absurd (true≢false (sym live ∙ ap is_some (sym e)))
    by (Some l) e = refl

found_as : (N N2 : Type 0) (L L2 : List ℕ → Type 0) (o : Option (List ℕ)) → (N → N2) → ((nodes : List ℕ) → L nodes → L2 nodes) → MatchOption o N L → MatchOption o N2 L2
found_as N N2 L L2 None none some h = none h
found_as N N2 L L2 (Some nodes) none some h = some nodes h

module _ (texts : List (List ℕ)) (at : ℕ → Option State) (size : ℕ) (label_at : ℕ → Option ℕ) (edge : ℕ → ℕ → Bool) (v : ℕ) (tabled : IsTabled texts size label_at edge)
    (e : Expr) (low start : ℕ) (stands : Stands texts at e low start 0) (end : at 0 ≡ Some End) where
  pub least_walk : v < size → (nodes : List ℕ) → IsLeastWayBy at size label_at edge v start nodes → IsLeast (shape_by texts size label_at edge) e v nodes
  least_walk below nodes l = record {
    shows = way_shows texts at size label_at edge v tabled e low start stands end nodes below l.way;
    least = λ others s. l.least others (shows_way texts at size label_at edge v tabled e low start stands end others s);
  }

  pub no_walk : ((nodes : List ℕ) → Way at size label_at edge v start size nodes → ⊥) → IsAnswer (shape_by texts size label_at edge) e v → ⊥
  no_walk none a =
      let k = answer_shown (shape_by texts size label_at edge) e v a in
      none k.0 (shows_way texts at size label_at edge v tabled e low start stands end k.0 k.1)

  -- what is found of lists that are read is found of walks
  pub walk_found : v < size → (o : Option (List ℕ)) → MatchOption o ((nodes : List ℕ) → Way at size label_at edge v start size nodes → ⊥) (λ nodes. IsLeastWayBy at size label_at edge v start nodes)
      → MatchOption o (IsAnswer (shape_by texts size label_at edge) e v → ⊥) (λ nodes. IsLeast (shape_by texts size label_at edge) e v nodes)
  walk_found below o h =
      found_as ((nodes : List ℕ) → Way at size label_at edge v start size nodes → ⊥) (IsAnswer (shape_by texts size label_at edge) e v → ⊥)
      (λ nodes. IsLeastWayBy at size label_at edge v start nodes) (λ nodes. IsLeast (shape_by texts size label_at edge) e v nodes) o no_walk (least_walk below) h
