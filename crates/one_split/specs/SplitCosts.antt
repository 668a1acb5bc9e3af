-- What splitting costs.
use Rattle.std.specs.Prelude.{◌≡◌, ℕ, ◌+◌, ◌*◌, ◌≤◌, List, [], ◌<◌, ◌⊎◌, IsTrue, length}
use Rattle.graph_update.specs.PendingChanges.{Pending}
use Rattle.quotient_moves.specs.NeighbourCosts.{parents_cost, children_cost}
use Rattle.graph_spec.specs.Members.{has}

-- moving a node reads its parents and its children once
abbrev pub move_cost : Pending → ℕ → ℕ
move_cost a n = parents_cost a n + children_cost a n

-- examining a node and moving it reads its parents twice and its children once
abbrev pub round_cost : Pending → ℕ → ℕ
round_cost a n = 2 * parents_cost a n + children_cost a n

-- What the rounds have cost, where the change costs w at the nodes inside: at most so much for each block that was made; once
-- nothing is left to be examined, for one more.
pub data HasCost (w new_blocks spent : ℕ) (next : List ℕ) : Type 0 where
  going : spent ≤ new_blocks * (3 * w) → HasCost w new_blocks spent next
  ended : next ≡ [] → spent ≤ (new_blocks + 1) * (3 * w) → HasCost w new_blocks spent next

-- a block was made, or none was made and no step was taken
abbrev pub IsCharged : List ℕ → List ℕ → ℕ → ℕ → Type 0
IsCharged new_blocks new_blocks2 steps steps2 = (length new_blocks < length new_blocks2) ⊎ ((length new_blocks2 ≡ length new_blocks) × (steps2 ≡ steps))

-- where moving a target costs at most w, no more than w was spent for each block that was made
abbrev pub CostsPerBlock : Pending → List ℕ → List ℕ → ℕ → ℕ → Type 0
CostsPerBlock a targets new_blocks steps steps2 = (w : ℕ) → ((n : ℕ) → IsTrue (has targets n) → move_cost a n ≤ w) → steps2 ≤ steps + length new_blocks * w
