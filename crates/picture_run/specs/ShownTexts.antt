-- What is written of one text, or of nothing, and the texts that are no pictures. Each line ends with LF (10).
use Rattle.std.specs.Prelude.{◌≡◌, ℕ, ◌⊎◌, List, [], ◌∷◌, ◌++◌, Option, codes, decimal}
use Rattle.std.specs.Io.KnownBytes.{Appends, Keeps}
use Rattle.px_base.specs.Files.{AppendsPrefix}

-- nothing is written, since a file isn't there or wasn't read to its end, or memory ran out
abbrev pub StopsAtOnce : Option (List ℕ) → Option (List ℕ) → ℕ → Type 0
StopsAtOnce old new status = Keeps old new × ((status ≡ 5) ⊎ (status ≡ 7))

-- the text is written with this status of its own, unless a write fails or memory runs out
abbrev pub ShowsLine : List ℕ → ℕ → Option (List ℕ) → Option (List ℕ) → ℕ → Type 0
ShowsLine text own old new status =
    ((status ≡ own) × Appends old new text)
    ⊎ (((status ≡ 6) × AppendsPrefix old new text) ⊎ ((status ≡ 7) × Keeps old new))

-- a line of the graph file is refused: its number and the reason
abbrev pub graph_line : ℕ → List ℕ → List ℕ
graph_line n reason = codes "graph " ++ decimal n ++ 32 ∷ (reason ++ 10 ∷ [])

-- the usage line
abbrev pub usage_line : List ℕ
usage_line = codes "usage: pathindex_dot GRAPH [--graph-of data|aK|one|fb|bK] [--blocks N] [--members N]" ++ 10 ∷ []
