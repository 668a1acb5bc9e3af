-- Walks that show why a node answers a path expression, and the order of walks.
use Rattle.std.specs.Prelude.{ℕ, ◌≡◌, ◌<◌, ◌⊎◌, List, [], ◌∷◌, length, map, Some}
use Rattle.graph_spec.specs.Shapes.{Shape, IsChild}
use Rattle.path_spec.specs.Trees.{Expr}
use Rattle.path_spec.specs.Matches.{Word, Matches}

-- each node but the first is a child of the one before
abbrev pub AreLinked : Shape → List ℕ → Type 0
AreLinked s [] = Unit {0}
AreLinked s (u ∷ []) = Unit {0}
AreLinked s (u ∷ c ∷ nodes) = IsChild s c u × AreLinked s (c ∷ nodes)

-- there is a node at least, and the last is v
abbrev pub EndIn : List ℕ → ℕ → Type 0
EndIn [] v = ⊥
EndIn (u ∷ []) v = u ≡ v
EndIn (u ∷ c ∷ nodes) v = EndIn (c ∷ nodes) v

-- The numbers are the nodes of a walk that ends in v, and its word, the list of their labels, matches the expression. A
-- number that is no node has no label, so no walk has it. A node may come more than once.
pub record Shows (s : Shape) (e : Expr) (v : ℕ) (nodes : List ℕ) : Type 0 where
  -- the word that is read
  pub word : Word
  -- the nodes have its labels, one after the other
  pub labels : map s.label nodes ≡ map Some word
  -- each node but the first is a child of the one before
  pub linked : AreLinked s nodes
  -- the last node is v
  pub end : EndIn nodes v
  -- the word matches the expression
  pub matches : Matches e word

-- At the first place where they differ, the first list has the smaller number. Lists of one length are meant.
abbrev pub IsLess : List ℕ → List ℕ → Type 0
IsLess [] others = ⊥
IsLess (u ∷ nodes) [] = ⊥
IsLess (u ∷ nodes) (x ∷ others) = (u < x) ⊎ ((u ≡ x) × IsLess nodes others)

-- the first list is shorter, or as long and less: the shortlex order
abbrev pub Before : List ℕ → List ℕ → Type 0
Before nodes others = (length nodes < length others) ⊎ ((length nodes ≡ length others) × IsLess nodes others)

-- the walk shows why v answers, and comes before each other one that does; at most one walk is the least
pub record IsLeast (s : Shape) (e : Expr) (v : ℕ) (nodes : List ℕ) : Type 0 where
  -- the walk shows why v answers
  pub shows : Shows s e v nodes
  -- each other such walk comes later in the order
  pub least : (others : List ℕ) → Shows s e v others → (others ≡ nodes) ⊎ Before nodes others
