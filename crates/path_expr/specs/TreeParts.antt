-- The parts of a tree, in order.
use Rattle.std.specs.Prelude.{ℕ, zero, suc, List, [], ◌∷◌}
use Rattle.path_spec.specs.Trees.{Sep, Expr, only, or, Seq, last, then, Item}

-- the alternatives of an expression
abbrev pub alternatives : Expr → List Seq
alternatives (only s) = s ∷ []
alternatives (or s e) = s ∷ alternatives e

-- the items of a sequence
abbrev pub items : Seq → List Item
items (last i) = i ∷ []
items (then i p s) = i ∷ items s

-- the separators of a sequence, each between two items
abbrev pub separators : Seq → List Sep
separators (last i) = []
separators (then i p s) = p ∷ separators s

-- a sequence without so many first items; the last one stays
abbrev pub without_first : ℕ → Seq → Seq
without_first zero s = s
without_first (suc n) (last i) = last i
without_first (suc n) (then i p s) = without_first n s
