-- How marks spread over places, and over pairs of a state and a place.
use Rattle.std.specs.Prelude.{◌≡◌, ℕ, ◌+◌, ◌≤◌, ◌⊎◌, ◌↔◌, Bool, List, length, Option, None, Some, IsTrue, IsSome}
use Rattle.graph_spec.specs.Members.{has}
use Rattle.px_base.specs.BitSets.{BitSet}
use Rattle.path_automaton.specs.ProductSteps.{leads, Succeeds}
use Rattle.path_automaton.specs.declared.state.State.{State}
use Rattle.path_automaton.specs.declared.state.State.TheVariants.{End, Stuck, Any, Label, Fork}
use Rattle.path_automaton.specs.MarkRows.{row, IsSet, IsMarked, row_members, members, pairs}
use Rattle.path_automaton.specs.ListedPairs.{Among}
use Rattle.path_automaton.specs.declared.frontier.Frontier.{Frontier}

-- Further places of the kind were marked in a row, and found.
pub record Gathers (P : ℕ → Type 0) (before after : List Bool) (found finds : List ℕ) : Type 0 where
  -- the row is as wide as before
  pub wide : length after ≡ length before
  -- what was marked is so still
  pub grows : (v : ℕ) → IsSet before v → IsSet after v
  -- what is newly marked is of the kind, and is found
  pub fresh : (v : ℕ) → IsSet after v → IsSet before v ⊎ (P v × IsTrue (has finds v))
  -- what was found is so still
  pub kept : (v : ℕ) → IsTrue (has found v) → IsTrue (has finds v)
  -- what is newly found is of the kind, and marked
  pub source : (v : ℕ) → IsTrue (has finds v) → IsTrue (has found v) ⊎ (P v × IsSet after v)
  -- as many were found as were marked
  pub counted : length finds + row_members before ≡ length found + row_members after
  -- marks only grow
  pub more : row_members before ≤ row_members after

-- Further pairs of the kind were marked, and listed.
pub record SpreadsOver (R : ℕ → ℕ → Type 0) (before after : List (List Bool)) (waited listed : List (ℕ × ℕ)) : Type 0 where
  -- there are as many rows
  pub states : length after ≡ length before
  -- each as wide as before
  pub wide : (s : ℕ) → length (row after s) ≡ length (row before s)
  -- and as many pairs
  pub same_pairs : pairs after ≡ pairs before
  -- what was marked is so still
  pub grows : (s v : ℕ) → IsMarked before s v → IsMarked after s v
  -- what is newly marked is of the kind, and is listed
  pub fresh : (s v : ℕ) → IsMarked after s v → IsMarked before s v ⊎ (R s v × Among listed s v)
  -- what was listed is so still
  pub kept : (s v : ℕ) → Among waited s v → Among listed s v
  -- what is newly listed is of the kind, and marked
  pub source : (s v : ℕ) → Among listed s v → Among waited s v ⊎ (R s v × IsMarked after s v)
  -- as many pairs were listed as were marked
  pub counted : length listed + members before ≡ length waited + members after
  -- marks only grow
  pub more : members before ≤ members after

-- further pairs of the kind were marked in the rows of a frontier, and listed in its worklist
abbrev pub Spreads : (ℕ → ℕ → Type 0) → Frontier → Frontier → Type 0
Spreads R before after = SpreadsOver R before.rows.items after.rows.items before.worklist after.worklist

-- the state was marked at further places of the kind, and is listed there
abbrev pub SpreadsAt : ℕ → (ℕ → Type 0) → Frontier → Frontier → Type 0
SpreadsAt state P before after = Spreads (λ s v. (s ≡ state) × P v) before after

-- each pair of the kind is marked
abbrev pub AreMarked : (ℕ → ℕ → Type 0) → Frontier → Type 0
AreMarked R after = (s v : ℕ) → R s v → IsMarked after.rows.items s v

-- only numbers of the kind were added
abbrev pub AddsOnly : (ℕ → Type 0) → BitSet → BitSet → Type 0
AddsOnly P before after = (v : ℕ) → IsTrue (has after.members v) → IsTrue (has before.members v) ⊎ P v

-- just the numbers of the kind are put in
abbrev pub Gains : List ℕ → List ℕ → (ℕ → Type 0) → Type 0
Gains old new P = (v : ℕ) → IsTrue (has new v) ↔ (IsTrue (has old v) ⊎ P v)

-- the label passes: any one, or the one with the number
abbrev pub Passes : (ℕ → Option ℕ) → Option ℕ → ℕ → Type 0
Passes label_at None c = IsSome (label_at c)
Passes label_at (Some l) c = label_at c ≡ Some l

-- the node comes next to the place, and passes
abbrev pub Next : ℕ → (ℕ → Option ℕ) → (ℕ → ℕ → Bool) → Option ℕ → ℕ → ℕ → Type 0
Next size label_at edge test v c = IsTrue (leads size label_at edge v c) × Passes label_at test c

-- the node comes next to one of the places, and passes
abbrev pub NextOf : ℕ → (ℕ → Option ℕ) → (ℕ → ℕ → Bool) → Option ℕ → List ℕ → ℕ → Type 0
NextOf size label_at edge test places c = (v : ℕ) × IsTrue (has places v) × Next size label_at edge test v c

-- what is read in a state: the label with the number, or any one
abbrev pub reading : Option ℕ → ℕ → State
reading None next = Any next
reading (Some l) next = Label l next

-- a node, or the place before all nodes
abbrev pub IsPlace : ℕ → (ℕ → Option ℕ) → ℕ → Type 0
IsPlace size label_at v = (v ≡ size) ⊎ IsSome (label_at v)

-- this state at one of the places is succeeded by the state s at the place c
abbrev pub SucceedsOne : ℕ → (ℕ → Option ℕ) → (ℕ → ℕ → Bool) → Option State → List ℕ → ℕ → ℕ → Type 0
SucceedsOne size label_at edge state places s c = (v : ℕ) × IsTrue (has places v) × Succeeds size label_at edge state v s c

-- the state is entered from this one with no label read
abbrev pub Enters : Option State → ℕ → Type 0
Enters None s = ⊥
Enters (Some End) s = ⊥
Enters (Some Stuck) s = ⊥
Enters (Some (Any next)) s = ⊥
Enters (Some (Label l next)) s = ⊥
Enters (Some (Fork a b)) s = (s ≡ a) ⊎ (s ≡ b)

-- a word ends in the state, or in one that is entered from it
abbrev pub EndsHere : (ℕ → Option State) → ℕ → Type 0
EndsHere at s = (at s ≡ Some End) ⊎ ((k : ℕ) × Enters (at s) k × (at k ≡ Some End))

-- the state enters no other
abbrev pub IsNoFork : Option State → Type 0
IsNoFork o = (a b : ℕ) → o ≡ Some (Fork a b) → ⊥

-- the state at one of the places, or what succeeds it there
abbrev pub EntersAt : (ℕ → Option State) → ℕ → (ℕ → Option ℕ) → (ℕ → ℕ → Bool) → ℕ → List ℕ → ℕ → ℕ → Type 0
EntersAt at size label_at edge k places s c = ((s ≡ k) × IsTrue (has places c)) ⊎ SucceedsOne size label_at edge (at k) places s c

-- the state is the end, or it is marked at the places, or what succeeds it there is
abbrev pub IsEntered : (ℕ → Option State) → ℕ → (ℕ → Option ℕ) → (ℕ → ℕ → Bool) → ℕ → List ℕ → List (List Bool) → Type 0
IsEntered at size label_at edge k places marks = (at k ≡ Some End)
    ⊎ (((v : ℕ) → IsTrue (has places v) → IsMarked marks k v)
    ⊎ ((at k ≡ Some End → ⊥) × ((s c : ℕ) → SucceedsOne size label_at edge (at k) places s c → IsMarked marks s c)))

-- what succeeds it, or succeeds a state that it enters
abbrev pub MarksOne : (ℕ → Option State) → ℕ → (ℕ → Option ℕ) → (ℕ → ℕ → Bool) → ℕ → List ℕ → ℕ → ℕ → Type 0
MarksOne at size label_at edge state places s c = SucceedsOne size label_at edge (at state) places s c
    ⊎ ((k : ℕ) × Enters (at state) k × SucceedsOne size label_at edge (at k) places s c)
