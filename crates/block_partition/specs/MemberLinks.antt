-- The nodes along links.
use Rattle.std.specs.Prelude.{ℕ, zero, suc, List, [], ◌∷◌, Option, None, Some}

-- the nodes from one on, each the next of the one before, and at most this many
abbrev pub chain : (ℕ → Option ℕ) → ℕ → Option ℕ → List ℕ
chain next zero o = []
chain next (suc left) None = []
chain next (suc left) (Some n) = n ∷ chain next left (next n)
