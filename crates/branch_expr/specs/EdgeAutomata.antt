-- The automaton that follows edges, whatever the labels. It is read from state 1 on.
use Rattle.std.specs.Prelude.{List, [], ◌∷◌}
use Rattle.path_automaton.specs.declared.state.State.{State}
use Rattle.path_automaton.specs.declared.state.State.TheVariants.{End, Any, Fork}

-- one or more edges
abbrev pub descendant_states : List State
descendant_states = End ∷ Any 2 ∷ Fork 0 1 ∷ []
