-- Bisimilar nodes, by levels. Over parents alone they are those of T. Milo and D. Suciu, "Index Structures for Path
-- Expressions", ICDT 1999, and by levels those of R. Kaushik, P. Shenoy, P. Bohannon and E. Gudes, "Exploiting Local
-- Similarity for Indexing Paths in Graph-Structured Data", ICDE 2002. Over parents and children they are those of R.
-- Kaushik, P. Bohannon, J. Naughton and H. Korth, "Covering Indexes for Branching Path Queries", SIGMOD 2002.
use Rattle.std.specs.Prelude.{ℕ, zero, suc, ◌≡◌, List, Some, is_some}
use Rattle.graph_spec.specs.Shapes.{Shape, IsParent, IsChild}
use Rattle.bisim_spec.specs.Below.{count_below}

-- how many nodes there are
abbrev pub node_count : Shape → ℕ
node_count s = count_below s.size (λ n. is_some (s.label n))

-- both are nodes, with one label
abbrev pub SameLabel : Shape → ℕ → ℕ → Type 0
SameLabel s u v = (t : List ℕ) × (s.label u ≡ Some t) × (s.label v ≡ Some t)

-- each neighbour of u is related to some neighbour of v
abbrev pub Covers : (ℕ → ℕ → Type 0) → (ℕ → ℕ → Type 0) → ℕ → ℕ → Type 0
Covers Neighbour R u v = (p : ℕ) → Neighbour p u → (q : ℕ) × Neighbour q v × R p q

-- each neighbour of the one is related to some neighbour of the other
pub record Matched (Neighbour : ℕ → ℕ → Type 0) (R : ℕ → ℕ → Type 0) (u v : ℕ) : Type 0 where
  -- each neighbour of u is related to some neighbour of v
  pub there : Covers Neighbour R u v
  -- each neighbour of v is related to some neighbour of u
  pub back : Covers Neighbour R v u

-- Nodes that are bisimilar to this level: at level 0 they have one label; one level up they are bisimilar to the level
-- below, and each parent of the one is bisimilar to some parent of the other, to the level below.
abbrev pub Bis : Shape → ℕ → ℕ → ℕ → Type 0
Bis s zero u v = SameLabel s u v
Bis s (suc i) u v = Bis s i u v × Matched (IsParent s) (Bis s i) u v

-- full bisimilarity: as many levels as there are nodes, after which no level tells more nodes apart
abbrev pub Bisim : Shape → ℕ → ℕ → Type 0
Bisim s u v = Bis s (node_count s) u v

-- A bisimulation: related nodes have one label, and each parent of the one is related to some parent of the other.
pub record IsBisimulation (s : Shape) (R : ℕ → ℕ → Type 0) : Type 0 where
  -- related nodes have one label
  pub label : (u v : ℕ) → R u v → SameLabel s u v
  -- each parent of the one is related to some parent of the other
  pub there : (u v p : ℕ) → R u v → IsParent s p u → (q : ℕ) × IsParent s q v × R p q
  -- and the other way round
  pub back : (u v q : ℕ) → R u v → IsParent s q v → (p : ℕ) × IsParent s p u × R p q

-- the same over parents and children
abbrev pub Both : Shape → ℕ → ℕ → ℕ → Type 0
Both s zero u v = SameLabel s u v
Both s (suc i) u v = Both s i u v × Matched (IsParent s) (Both s i) u v × Matched (IsChild s) (Both s i) u v

-- full bisimilarity over parents and children (forward and backward)
abbrev pub FB : Shape → ℕ → ℕ → Type 0
FB s u v = Both s (node_count s) u v
