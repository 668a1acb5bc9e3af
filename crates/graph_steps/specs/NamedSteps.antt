-- The steps that name a node, from one to the next.
use Rattle.std.specs.Prelude.{◌≡◌, ◌≤◌, ⊤, ℕ, ◌-◌, true, false, List, [], ◌∷◌, length, take, drop, slice_get, Some}
use Rattle.change_spec.specs.Steps.{Step}
use Rattle.change_spec.specs.Named.{names, is_named, takes_away}

-- the place is that of the first step from a place on that names the node, or the end of the steps if none does
pub record IsNextNamed (n : ℕ) (c : List Step) (from place : ℕ) : Type 0 where
  -- the place isn't earlier than the one where the search begins
  pub ordered : from ≤ place
  -- it is no later than the end
  pub within : place ≤ length c
  -- no step on the way names the node
  pub between : is_named (take (place - from) (drop from c)) n ≡ false
  -- the step there names it, unless it is the end
  pub named : (s : Step) → slice_get c place ≡ Some s → names n s ≡ true

-- no step names a node that one before it takes away
abbrev pub DropsLast : List Step → Type 0
DropsLast [] = ⊤
DropsLast (s ∷ ss) = ((n : ℕ) → takes_away s n ≡ true → is_named ss n ≡ false) × DropsLast ss
