-- What loops keep that go from one member of a set to the next.
use Rattle.std.proofs.Common.{◌↔◌, ◌⊎◌, ℕ, ◌<◌, ◌≤◌, Bool, List, IsTrue}
use Rattle.graph_spec.specs.Members.{has}

-- the members at which it holds stay, and those that weren't looked at
abbrev pub Filtered : (ℕ → Type 0) → List ℕ → List ℕ → ℕ → Type 0
Filtered P old now from = (m : ℕ) → IsTrue (has now m) ↔ (IsTrue (has old m) × ((from ≤ m) ⊎ P m))

-- the members below a number were put in
abbrev pub United : List ℕ → List ℕ → List ℕ → ℕ → Type 0
United old now other from = (m : ℕ) → IsTrue (has now m) ↔ (IsTrue (has old m) ⊎ ((m < from) × IsTrue (has other m)))

-- to where edges lead from the members below a number
abbrev pub LedFrom : (ℕ → ℕ → Bool) → List ℕ → List ℕ → ℕ → Type 0
LedFrom edge set image from = (c : ℕ) → IsTrue (has image c) ↔ ((v : ℕ) × (v < from) × IsTrue (has set v) × IsTrue (edge v c))
