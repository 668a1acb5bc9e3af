-- Nodes with the numbers of their keys.
use Rattle.std.specs.Prelude.{◌≡◌, ℕ, ◌<◌, Bool, List, Option, Some, length, slice_get, slice_index}
use Rattle.graph_spec.specs.Members.{at}
use Rattle.graph_spec.specs.Graphs.{has_edge}
use Rattle.bisim_spec.specs.NodeKeys.{IsKey}
use Rattle.key_table.specs.NumberedKeys.{Interns}
use Rattle.graph_update.specs.PendingChanges.{Pending, graph_after}

-- the number is that of the node's key, over the partition
pub record HasNumber (p : List (Option ℕ)) (neighbour_of : ℕ → ℕ → Bool) (keys : List (List ℕ)) (n k : ℕ) : Type 0 where
  -- the key of the node
  pub key : List ℕ
  -- it has this number
  pub found : slice_get keys k ≡ Some key
  -- it is the node's, over the partition
  pub is : IsKey (at p) p neighbour_of n key

-- each node of the first list has its number in the second one, and each key is that of some node
pub record HaveNumbers (p : List (Option ℕ)) (neighbour_of : ℕ → ℕ → Bool) (keys : List (List ℕ)) (nodes numbers : List ℕ) : Type 0 where
  -- each number is that of the key of its node
  pub each : (i : ℕ) → i < length numbers → HasNumber p neighbour_of keys (slice_index nodes i) (slice_index numbers i)
  -- each key is that of some node
  pub some : (k : ℕ) → k < length keys → (i : ℕ) × (i < length numbers) × (slice_index numbers i ≡ k)

-- whether an edge leads from one node to the other after the change
abbrev pub leads_after : Pending → ℕ → ℕ → Bool
leads_after a = has_edge (graph_after a)

-- the number is that of the node's key, by its block and those of its parents after the change; the key is put behind
-- the others where it was absent
abbrev pub InternsParentKey : List (Option ℕ) → Pending → ℕ → List (List ℕ) → List (List ℕ) → ℕ → Type 0
InternsParentKey p a n keys keys2 k = (key : List ℕ) × IsKey (at p) p (leads_after a) n key × Interns keys keys2 key k
