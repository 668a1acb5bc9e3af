-- The steps that are still to be read for the neighbours of a node.
use Rattle.std.specs.Prelude.{◌≡◌, ◌<◌, ◌≤◌, ℕ, Bool, false, List, length}
use Rattle.change_spec.specs.Steps.{Step}
use Rattle.change_spec.specs.Named.{is_dropped}

-- the steps from a place on are still to be read, and the node stays where there is one
pub record AreLeft (c : List Step) (n from : ℕ) : Type 0 where
  -- the place is no later than the end
  pub within : from ≤ length c
  -- before the end, no step takes the node away
  pub stays : from < length c → is_dropped c n ≡ false

-- where no step is said to drop a node, none does
abbrev pub TellsDrops : List Step → Bool → Type 0
TellsDrops c drops = drops ≡ false → (n : ℕ) → is_dropped c n ≡ false
