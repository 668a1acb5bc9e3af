-- The tables of a quotient.
use Rattle.std.specs.Prelude.{◌≡◌, ℕ, ◌+◌, ◌≤◌, List, length, nat_eq, slice_index, refl}
use Rattle.std.specs.Coded.{Coded, code_by, coded×, coded_ℕ}
use Rattle.std.specs.FinMap as table
use Rattle.graph_spec.specs.Graphs.{edge_cmp}
use Rattle.bisim_spec.specs.IndexGraphs.{SupportTable}
use Rattle.quotient.specs.Quotients.{ReservedPairs, with_support}
use Rattle.quotient.specs.QuotientNeighbours.{AreNeighbourLists, one_if}

-- the supports of a quotient
pub record KeptPairs : Type 0 where
  -- for each pair of blocks with an edge, how many edges lead from members of the one to members of the other
  pub pairs : SupportTable
  -- how many more pairs fit with no more memory
  pub reserved : ℕ

-- the code of kept pairs is that of their parts
abbrev pub pairs_code : Coded KeptPairs
pairs_code =
    code_by (SupportTable × ℕ)
    (coded× (table.code {R = edge_cmp} (coded× coded_ℕ coded_ℕ) coded_ℕ) coded_ℕ)
    (λ k. (k.pairs, k.reserved))
    (λ p. record { pairs = p.0; reserved = p.1 })
    (λ _. refl)

-- the lists of neighbours on one side
pub record KeptLists : Type 0 where
  -- for each block its neighbours
  pub lists : List (List ℕ)
  -- for each block, how many more neighbours fit with no more memory
  pub reserved : List ℕ

-- what is reserved in the tables of supports, of children and of parents
abbrev pub reserved_in : KeptPairs → KeptLists → KeptLists → ReservedPairs
reserved_in supports children parents = record {
  span = length children.lists;
  pairs = supports.reserved;
  children = children.reserved;
  parents = parents.reserved;
}

-- each list has as much reserved as before, but this one may have one fewer
pub record UsesOne (n : ℕ) (old new : List ℕ) : Type 0 where
  -- this one has at most one fewer, and no other has fewer
  pub rest : (m : ℕ) → slice_index old m ≤ slice_index new m + one_if (nat_eq m n)

-- each list has as much reserved as before, or more
pub record GivesMore (old new : List ℕ) : Type 0 where
  -- none has fewer
  pub rest : (m : ℕ) → slice_index old m ≤ slice_index new m

-- the support of a pair is written, and its blocks are neighbours exactly if it isn't 0
pub record IsWritten (a b n : ℕ) (old new : KeptPairs) (children children2 parents parents2 : KeptLists) : Type 0 where
  -- no other support changes
  pub pairs : new.pairs ≡ with_support old.pairs (a, b) n
  -- at most the capacity of one pair is used
  pub pair_reserved : old.reserved ≤ new.reserved + 1
  -- children and parents are listed exactly where there is support
  pub neighbour_lists : AreNeighbourLists new.pairs children2.lists parents2.lists
  -- there are as many lists of children as before
  pub length_children : length children2.lists ≡ length children.lists
  -- there are as many lists of parents as before
  pub length_parents : length parents2.lists ≡ length parents.lists
  -- at most the capacity of one child of `a` is used
  pub child_reserved : UsesOne a children.reserved children2.reserved
  -- at most the capacity of one parent of `b` is used
  pub parent_reserved : UsesOne b parents.reserved parents2.reserved
