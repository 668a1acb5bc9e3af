-- How an automaton grows by the states of a part.
use Rattle.std.specs.Prelude.{◌≡◌, ℕ, ◌≤◌, ◌<◌, List, [], ◌∷◌, length, slice_get, Option, None, Some}
use Rattle.path_automaton.specs.declared.state.State.{State}
use Rattle.path_automaton.specs.declared.state.State.TheVariants.{Fork, Any}
use Rattle.path_spec.specs.Trees as tree
use Rattle.path_expr.specs.ExprAutomata.{Stands, StandsSeq}
use Rattle.path_expr.specs.declared.tree.Sep.{Sep}
use Rattle.path_expr.specs.declared.tree.Sep.TheVariants.{Child, Below}
use Rattle.path_expr.specs.declared.tree.Following.{Following}
use Rattle.path_expr.specs.declared.tree.Seq.{Seq}
use Rattle.path_expr.specs.ExprTrees.{item_of, seq_of, seq_from}

-- the states that were there are there still
pub record Grows (old new : List State) : Type 0 where
  -- there are no fewer states
  pub longer : length old ≤ length new
  -- each has the place that it had
  pub kept : (k : ℕ) (s : State) → slice_get old k ≡ Some s → slice_get new k ≡ Some s

-- from the result both states are entered, where there is a second one
abbrev pub HasFork : List State → List State → ℕ → Option ℕ → ℕ → Type 0
HasFork old new first None result = result ≡ first
HasFork old new first (Some second) result = (slice_get new result ≡ Some (Fork first second)) × (length old ≤ result)

-- from the result what follows the separator is read, and then the state comes
abbrev pub HasSep : Sep → List State → List State → ℕ → ℕ → Type 0
HasSep Child old new next result = result ≡ next
HasSep Below old new next result =
    (h : ℕ) × (slice_get new result ≡ Some (Fork h next)) × (slice_get new h ≡ Some (Any result)) × (length old ≤ result) × (length old ≤ h)

-- the alternatives, each as it is compiled
abbrev pub expr_by : (tree.Seq → tree.Seq) → tree.Seq → List Seq → tree.Expr
expr_by f s [] = tree.only (f s)
expr_by f s (r ∷ rs) = tree.or (f s) (expr_by f (seq_of r) rs)

module _ (texts : List (List ℕ)) (states : List State) (low : ℕ) where
  -- the alternatives stand, if there are any
  abbrev pub StandMore : (tree.Seq → tree.Seq) → List Seq → (next : ℕ) → Option ℕ → Type 0
  StandMore f [] next behind = behind ≡ None
  StandMore f (s ∷ ss) next behind = (i : ℕ) × (behind ≡ Some i) × (i < length states)
      × Stands texts (λ k. slice_get states k) (expr_by f (seq_of s) ss) low i next

  -- what follows a separator stands, and this state comes first
  abbrev pub StandSep : Sep → tree.Seq → (next after : ℕ) → Type 0
  StandSep Child r next after = StandsSeq texts (λ k. slice_get states k) r low after next
  StandSep Below r next after =
      (h : ℕ) × (y : ℕ) × (slice_get states after ≡ Some (Fork h y)) × (slice_get states h ≡ Some (Any after)) × (low ≤ after) × (low ≤ h)
      × StandsSeq texts (λ k. slice_get states k) r low y next

  -- the steps stand, and this state comes first
  abbrev pub StandRest : List Following → (next after : ℕ) → Type 0
  StandRest [] next after = after ≡ next
  StandRest (s ∷ ss) next after = StandSep s.sep (seq_from (item_of s.item) ss) next after
