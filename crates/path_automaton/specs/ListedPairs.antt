-- The worklist: a state, and a place at which it was entered. Runs of places with one state say which.
use Rattle.std.specs.Prelude.{◌≡◌, ℕ, ◌<◌, ◌≤◌, ◌⊎◌, List, [], ◌∷◌, ◌++◌, length, take, drop}
use Rattle.path_automaton.specs.declared.worklist.Run.{Run}

-- the state at each of the places
abbrev pub all_at : ℕ → List ℕ → List (ℕ × ℕ)
all_at s [] = []
all_at s (v ∷ vs) = (s, v) ∷ all_at s vs

-- the pairs of the runs
abbrev pub pairs_in : List Run → List ℕ → List (ℕ × ℕ)
pairs_in [] places = []
pairs_in (r ∷ rs) places = all_at r.state (take r.len places) ++ pairs_in rs (drop r.len places)

-- each run has places, and together they have all of them
abbrev pub AreRuns : List Run → List ℕ → Type 0
AreRuns [] places = places ≡ []
AreRuns (r ∷ rs) places = (0 < r.len) × (r.len ≤ length places) × AreRuns rs (drop r.len places)

-- these are the last pairs, and the others stay
pub record IsTaken (old new : List (ℕ × ℕ)) (s : ℕ) (places : List ℕ) : Type 0 where
  -- the old list ends with the state at these places
  pub last : old ≡ new ++ all_at s places
  -- there is such a place
  pub some : 0 < length places

-- the state at the place is among those listed
abbrev pub Among : List (ℕ × ℕ) → ℕ → ℕ → Type 0
Among [] s v = ⊥
Among (p ∷ ps) s v = ((p.0 ≡ s) × (p.1 ≡ v)) ⊎ Among ps s v
