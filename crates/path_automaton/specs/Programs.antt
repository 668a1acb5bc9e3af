-- Automata as lists of states.
use Rattle.std.specs.Prelude.{◌≡◌, ℕ, ◌<◌, List, length, slice_get, Option, Some}
use Rattle.path_automaton.specs.declared.state.State.{State}
use Rattle.path_automaton.specs.declared.state.State.TheVariants.{End, Stuck, Any, Label, Fork}

-- the state with the number
abbrev pub state_at : List State → ℕ → Option State
state_at states k = slice_get states k

-- it is the state in which words end
abbrev pub IsEnd : List State → ℕ → Type 0
IsEnd states k = state_at states k ≡ Some End

-- the states that it leads to have numbers below n
abbrev pub LeadsInside : ℕ → State → Type 0
LeadsInside n End = Unit {0}
LeadsInside n Stuck = Unit {0}
LeadsInside n (Any next) = next < n
LeadsInside n (Label l next) = next < n
LeadsInside n (Fork a b) = (a < n) × (b < n)

-- each state leads to states of the list
abbrev pub AreInside : List State → Type 0
AreInside states = (k : ℕ) (s : State) → slice_get states k ≡ Some s → LeadsInside (length states) s
