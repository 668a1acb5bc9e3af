-- Which index a query is asked through, and in which order indexes are listed.
use Rattle.std.specs.Prelude.{ℕ, zero, suc, List, [], ◌∷◌, ◌++◌, Option, Some, None}
use Rattle.bisim_spec.specs.declared.kind.Kind.{Kind}
use Rattle.bisim_spec.specs.declared.kind.Kind.TheVariants as kind
use Rattle.index_api.specs.declared.kinds.Via.{Via}
use Rattle.index_api.specs.declared.kinds.Via.TheVariants.{Data, A, One, Fb, B}

-- the kind and the level; none for the graph itself
abbrev pub place_of : Via → Option (Kind × ℕ)
place_of Data = None
place_of (A level) = Some (kind.A, level)
place_of One = Some (kind.One, 0)
place_of Fb = Some (kind.Fb, 0)
place_of (B level) = Some (kind.B, level)

-- the indexes of a family, of the levels below n, the lowest first
abbrev pub levels_below : (ℕ → Via) → ℕ → List Via
levels_below at_level zero = []
levels_below at_level (suc n) = levels_below at_level n ++ at_level n ∷ []

-- all indexes with levels up to k, in the order in which they are listed
abbrev pub all_indexes : ℕ → List Via
all_indexes k = levels_below A (suc k) ++ One ∷ Fb ∷ levels_below B (suc k)
