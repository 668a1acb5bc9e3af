-- What is written of one line, or of nothing.
use Rattle.std.specs.Prelude.{◌≡◌, ℕ, ◌⊎◌, List, Option}
use Rattle.std.specs.Io.KnownBytes.{Appends, Keeps}
use Rattle.px_base.specs.Files.{AppendsPrefix}

-- nothing is written, since a file isn't there or wasn't read to its end, or memory ran out
abbrev pub StopsAtOnce : Option (List ℕ) → Option (List ℕ) → ℕ → Type 0
StopsAtOnce old new status = Keeps old new × ((status ≡ 5) ⊎ (status ≡ 7))

-- the line is written with this status of its own, unless a write fails or memory runs out
abbrev pub ShowsLine : List ℕ → ℕ → Option (List ℕ) → Option (List ℕ) → ℕ → Type 0
ShowsLine line own old new status =
    ((status ≡ own) × Appends old new line)
    ⊎ (((status ≡ 6) × AppendsPrefix old new line) ⊎ ((status ≡ 7) × Keeps old new))
