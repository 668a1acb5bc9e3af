-- A plain test for whether a walk shows why a node answers.
use Rattle.std.specs.Prelude.{ℕ, ◌&&◌, Bool, true, false, nat_eq, List, [], ◌∷◌, Option, None, Some}
use Rattle.graph_spec.specs.Shapes.{Shape}
use Rattle.path_spec.specs.Trees.{Expr}
use Rattle.path_spec.specs.Matches.{Word}
use Rattle.path_spec.specs.Tests.{matches}

-- the word with one more label in front
abbrev pub labelled : Option (List ℕ) → Option Word → Option Word
labelled None w = None
labelled (Some t) None = None
labelled (Some t) (Some w) = Some (t ∷ w)

-- the labels of the nodes, and none if some number is no node
abbrev pub word_of : Shape → List ℕ → Option Word
word_of s [] = Some []
word_of s (u ∷ nodes) = labelled (s.label u) (word_of s nodes)

-- each node but the first is a child of the one before
abbrev pub are_linked : Shape → List ℕ → Bool
are_linked s [] = true
are_linked s (u ∷ []) = true
are_linked s (u ∷ c ∷ nodes) = s.edge u c && are_linked s (c ∷ nodes)

-- there is a node at least, and the last is v
abbrev pub end_in : List ℕ → ℕ → Bool
end_in [] v = false
end_in (u ∷ []) v = nat_eq u v
end_in (u ∷ c ∷ nodes) v = end_in (c ∷ nodes) v

-- there is a word, and it matches
abbrev pub word_matches : Expr → Option Word → Bool
word_matches e None = false
word_matches e (Some w) = matches e w

-- each node is a child of the one before, v is the last, and their word matches
abbrev pub shows : Shape → Expr → ℕ → List ℕ → Bool
shows s e v nodes = are_linked s nodes && (end_in nodes v && word_matches e (word_of s nodes))
