-- Which queries an index answers exactly. Sources: T. Milo and D. Suciu, ICDT 1999 (path expressions through the 1-index), R.
-- Kaushik, P. Shenoy, P. Bohannon and E. Gudes, ICDE 2002 (short ones through an A(k)-index), R. Kaushik, P. Bohannon, J.
-- Naughton and H. Korth, SIGMOD 2002 (all queries through the forward and backward index, shallow ones through a bounded
-- one).
use Rattle.std.specs.Prelude.{ℕ, ◌+◌, ◌≤◌, Some}
use Rattle.graph_spec.specs.Graphs.{Graph}
use Rattle.path_spec.specs.Trees.{Expr}
use Rattle.path_spec.specs.Matches.{Matches}
use Rattle.path_spec.specs.Longest.{IsLongest}
use Rattle.bisim_spec.specs.declared.kind.Kind.TheVariants as kind
use Rattle.bisim_spec.specs.IndexGraphs.{View}
use Rattle.bisim_spec.specs.Fits.{FitsAt}
use Rattle.index_api.specs.declared.kinds.Via.{Via}
use Rattle.branch_spec.specs.Depths.{depth, IsUpTo}
use Rattle.index_api.specs.declared.kinds.Via.TheVariants.{Data, A, One, Fb, B}
use Rattle.branch_query.specs.Queries.{Query, of_path, of_branch}

-- the expression has a longest matching word, of at most so many labels
abbrev pub HasLongestWithin : Expr → ℕ → Type 0
HasLongestWithin e most = (n : ℕ) × IsLongest (Matches e) (Some n) × (n ≤ most)

-- The index answers the query exactly: the 1-index each path expression, the forward and backward index each query, A(i)
-- and B(i) each path expression that has a longest matching word, of at most i + 1 labels, and B(i) each branching query
-- that has a depth, of at most i. The others are exact for no branching query, since they don't tell nodes apart by their
-- children. The graph itself is no index.
abbrev pub IsExact : Via → Query → Type 0
IsExact Data q = ⊥
IsExact (A i) (of_path e) = HasLongestWithin e (i + 1)
IsExact (A i) (of_branch q) = ⊥
IsExact One (of_path e) = Unit {0}
IsExact One (of_branch q) = ⊥
IsExact Fb q = Unit {0}
IsExact (B i) (of_path e) = HasLongestWithin e (i + 1)
IsExact (B i) (of_branch q) = IsUpTo (depth q) i

-- the view is what that of the index has to be for the graph
abbrev pub FitsVia : Via → Graph → View → Type 0
FitsVia Data g v = ⊥
FitsVia (A i) g v = FitsAt kind.A g i (Some v)
FitsVia One g v = FitsAt kind.One g 0 (Some v)
FitsVia Fb g v = FitsAt kind.Fb g 0 (Some v)
FitsVia (B i) g v = FitsAt kind.B g i (Some v)
