-- How the next number of a block is looked for.
use Rattle.std.specs.Prelude.{ℕ, ◌+◌, List, [], ◌∷◌}

-- the number behind that of the last block, and the first argument where there is none
abbrev pub from_after : ℕ → List (ℕ × ℕ) → ℕ
from_after from [] = from
from_after from (e ∷ es) = from_after (e.0 + 1) es
