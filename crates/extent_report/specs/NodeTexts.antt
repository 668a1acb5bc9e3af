-- The texts of nodes that are listed from some number on.
use Rattle.std.specs.Prelude.{ℕ, List, [], ◌∷◌, ◌++◌, filter, nat_le}
use Rattle.graph_spec.specs.Words.{node_word}

-- the members whose numbers are this one or above it
abbrev pub members_from : List ℕ → ℕ → List ℕ
members_from members from = filter (λ m. nat_le from m) members

-- each node behind a space (32)
abbrev pub others_text : List ℕ → List ℕ
others_text [] = []
others_text (n ∷ ns) = 32 ∷ (node_word n ++ others_text ns)
