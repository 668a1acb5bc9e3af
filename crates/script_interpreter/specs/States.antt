-- The state of a run.
use Rattle.std.specs.Prelude.{ℕ, ◌≡◌, Bool, true, false, not, List, [], IsTrue, if◌then◌else◌}
use Rattle.std.specs.List.{filter}
use Rattle.graph_spec.specs.Graphs.{Graph}
use Rattle.graph_spec.specs.Shapes.{shape_of}
use Rattle.bisim_spec.specs.declared.kind.Kind.{Kind}
use Rattle.bisim_spec.specs.declared.kind.Kind.TheVariants.{One}
use Rattle.bisim_spec.specs.Bisimilarity.{Bisim}
use Rattle.bisim_spec.specs.Partitions.{Agrees}
use Rattle.index_api.specs.IndexKinds.{KeptIndexes, is_kind, has_kind}
use Rattle.triple_names.specs.Names.{Names, AreSameNames}

-- what commands change or ask
pub record State : Type 0 where
  -- the graph as it is now
  pub graph : Graph
  -- the indexes that are kept: their kinds, the highest level of the families, and the blocks of the 1-index
  pub kept : KeptIndexes
  -- the numbers of the nodes of terms and triples, by which triples are inserted and deleted
  pub names : Names

-- whether an index of that kind is kept
abbrev pub keeps : State → Kind → Bool
keeps s kind = has_kind s.kept.kinds kind

-- A state with which a run begins: this graph, these numbers of terms and triples, and indexes of these kinds with levels up to k.
-- The blocks of the 1-index, if it is kept, are full bisimilarity.
pub record BeginsRun (g : Graph) (n : Names) (given : List Kind) (k : ℕ) (s : State) : Type 0 where
  -- the graph is this one
  pub graph : s.graph ≡ g
  -- terms and triples have these numbers
  pub names : AreSameNames s.names n
  -- indexes of just these kinds are kept
  pub kinds : s.kept.kinds ≡ given
  -- their highest level is k
  pub level : s.kept.k ≡ k
  -- the 1-index, where it is kept, shows full bisimilarity
  pub one : IsTrue (keeps s One) → Agrees (shape_of g) s.kept.one (Bisim (shape_of g))
  -- if it isn't kept, the state has no blocks of it
  pub none : keeps s One ≡ false → s.kept.one ≡ []

-- the kinds other than that one
abbrev pub without : Kind → List Kind → List Kind
without kind kinds = filter (λ other. not (is_kind kind other)) kinds

-- the kinds without that one, if it is left out
abbrev pub left_out : Bool → Kind → List Kind → List Kind
left_out false kind kinds = kinds
left_out true kind kinds = without kind kinds

-- the indexes without those of that kind
abbrev pub without_kind : Kind → KeptIndexes → KeptIndexes
without_kind kind kept = record {
  kinds = without kind kept.kinds;
  k = kept.k;
  one = if is_kind kind One then [] else kept.one;
}

-- the state in which no index of that kind is kept
abbrev pub forgotten : Kind → State → State
forgotten kind s = record s { kept = without_kind kind s.kept }
