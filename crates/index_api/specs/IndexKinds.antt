-- Which indexes are kept, and what each of them groups together.
use Rattle.std.specs.Prelude.{ℕ, ◌&&◌, Bool, true, false, List, Option, map, nat_le, option_and_then}
use Rattle.std.specs.List.{find, list_any}
use Rattle.graph_spec.specs.Graphs.{Graph}
use Rattle.graph_spec.specs.Shapes.{shape_of}
use Rattle.bisim_spec.specs.declared.kind.Kind.{Kind}
use Rattle.bisim_spec.specs.declared.kind.Kind.TheVariants as kind
use Rattle.bisim_spec.specs.Bisimilarity.{Bis, Both, FB}
use Rattle.bisim_spec.specs.Partitions.{Together}
use Rattle.bisim_spec.specs.IndexGraphs.{View}
use Rattle.bisim_spec.specs.Fits.{view_at}
use Rattle.index_api.specs.declared.kinds.Via.{Via}
use Rattle.index_api.specs.declared.kinds.Via.TheVariants.{Data, A, One, Fb, B}
use Rattle.index_api.specs.Meanings.{Meaning, blocks_in}

-- which indexes are kept
pub record KeptIndexes : Type 0 where
  -- the kinds of the indexes that are kept
  pub kinds : List Kind
  -- the highest level of the families
  pub k : ℕ
  -- the blocks of the 1-index in force; nothing if it isn't kept
  pub one : List (Option ℕ)

-- whether two kinds are the same
abbrev pub is_kind : Kind → Kind → Bool
is_kind kind.A kind.A = true
is_kind kind.A kind.One = false
is_kind kind.A kind.Fb = false
is_kind kind.A kind.B = false
is_kind kind.One kind.A = false
is_kind kind.One kind.One = true
is_kind kind.One kind.Fb = false
is_kind kind.One kind.B = false
is_kind kind.Fb kind.A = false
is_kind kind.Fb kind.One = false
is_kind kind.Fb kind.Fb = true
is_kind kind.Fb kind.B = false
is_kind kind.B kind.A = false
is_kind kind.B kind.One = false
is_kind kind.B kind.Fb = false
is_kind kind.B kind.B = true

-- whether the kind is among these
abbrev pub has_kind : List Kind → Kind → Bool
has_kind kinds k = list_any (is_kind k) kinds

-- Whether the index is kept. An index of a family is where the family is, up to the highest level; the graph itself is no
-- index.
abbrev pub is_kept : KeptIndexes → Via → Bool
is_kept kept Data = false
is_kept kept (A level) = has_kind kept.kinds kind.A && nat_le level kept.k
is_kept kept One = has_kind kept.kinds kind.One
is_kept kept Fb = has_kind kept.kinds kind.Fb
is_kept kept (B level) = has_kind kept.kinds kind.B && nat_le level kept.k

-- The relation of the index: the two nodes are in one of its blocks. For the A(i)-index it is bisimilarity to level i
-- of the graph as it is now, for the forward and backward index full bisimilarity by parents and children, and for a
-- bounded one that to its level. The partition of the 1-index is one of several on graphs with cycles, so there the blocks
-- in force decide.
abbrev pub Relates : Graph → KeptIndexes → Via → ℕ → ℕ → Type 0
Relates g kept Data u v = ⊥
Relates g kept (A level) u v = Bis (shape_of g) level u v
Relates g kept One u v = Together kept.one u v
Relates g kept Fb u v = FB (shape_of g) u v
Relates g kept (B level) u v = Both (shape_of g) level u v

-- the kind of each of these indexes
abbrev pub kinds_of : List Meaning → List Kind
kinds_of boxes = map (λ m. m.kind) boxes

-- the index of this kind, none if it isn't kept
abbrev pub index_of : List Meaning → Kind → Option Meaning
index_of boxes k = find (λ m. is_kind k m.kind) boxes

-- the view of that level of the index of this kind; none if it isn't kept or isn't computed
abbrev pub kept_view : List Meaning → Kind → ℕ → Option View
kept_view boxes k level = option_and_then (λ m. view_at m.views level) (index_of boxes k)

-- what the boxes keep, with levels up to k
abbrev pub kept_of : List Meaning → ℕ → KeptIndexes
kept_of boxes k = record { kinds = kinds_of boxes; k = k; one = blocks_in (kept_view boxes kind.One 0) }
