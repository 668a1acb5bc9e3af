-- The names of nodes that are terms.
use Rattle.std.specs.Prelude.{ℕ, ◌≡◌, ◌⊎◌, List, [], Some, slice_index_or}
use Rattle.triples_read.specs.declared.term.Term.{Term}
use Rattle.term_table.specs.Terms.{number_of}
use Rattle.index_picture.specs.ShownNames.{term_name}

-- the name is empty, or that of a term whose number is n
abbrev pub IsNameAt : List (Term × ℕ) → ℕ → List ℕ → Type 0
IsNameAt terms n name = (name ≡ []) ⊎ ((x : Term) × (number_of terms x ≡ Some n) × (name ≡ term_name x))

-- each name is that of a term with the number of the node
abbrev pub AreTermNames : List (Term × ℕ) → List (List ℕ) → Type 0
AreTermNames terms names = (n : ℕ) → IsNameAt terms n (slice_index_or names n [])
