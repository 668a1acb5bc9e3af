-- What is drafted over an index graph. It shows the partition and the supports that result from writing it into the
-- base.
use Rattle.std.specs.Prelude.{ℕ, ◌≡◌, ◌+◌, ◌&&◌, Bool, List, [], ◌∷◌, ◌++◌, Option, None, Some, cond, nat_eq, refl, if◌then◌else◌, false}
use Rattle.std.specs.Coded.{Coded, code_by, coded×, coded_ℕ, coded_list, coded_option}
use Rattle.std.specs.List.{list_any}
use Rattle.std.specs.Map.{lookup}
use Rattle.graph_spec.specs.Members.{is_this, at, has}
use Rattle.block_partition.specs.LabelledPartitions.{put}
use Rattle.bisim_spec.specs.IndexGraphs.{View, SupportTable, support_at}
use Rattle.quotient.specs.Quotients.{Quotient, with_put, with_support}

-- what is drafted over a quotient
pub record Drafted : Type 0 where
  -- the number and the label of each further block, in the order in which they were made
  pub added : List (ℕ × ℕ)
  -- nodes, each once, with the block, or none, into which they are put
  pub moves : List (ℕ × Option ℕ)
  -- the blocks, as shown at the time, from which nodes were taken
  pub left : List ℕ
  -- for blocks of the base, each once, how many of their members are moved
  pub taken : List (ℕ × ℕ)
  -- pairs of blocks, each once, with their supports
  pub supports : List ((ℕ × ℕ) × ℕ)

-- a draft is stored as its lists
abbrev DraftParts : Type 0
DraftParts = List (ℕ × ℕ) × (List (ℕ × Option ℕ) × (List ℕ × (List (ℕ × ℕ) × List ((ℕ × ℕ) × ℕ))))

-- the code of a draft is that of its lists
abbrev pub drafted_code : Coded Drafted
drafted_code =
    code_by DraftParts
    (coded× (coded_list (coded× coded_ℕ coded_ℕ))
    (coded× (coded_list (coded× coded_ℕ (coded_option coded_ℕ)))
    (coded× (coded_list coded_ℕ) (coded× (coded_list (coded× coded_ℕ coded_ℕ)) (coded_list (coded× (coded× coded_ℕ coded_ℕ) coded_ℕ))))))
    (λ d. (d.added, (d.moves, (d.left, (d.taken, d.supports)))))
    (λ p. record { added = p.0; moves = p.1.0; left = p.1.1.0; taken = p.1.1.1.0; supports = p.1.1.1.1 })
    (λ _. refl)

-- nothing is drafted
abbrev pub no_changes : Drafted
no_changes = record { added = []; moves = []; left = []; taken = []; supports = [] }

-- the labels, once these blocks are made
abbrev pub with_added : List (Option ℕ) → List (ℕ × ℕ) → List (Option ℕ)
with_added labels [] = labels
with_added labels (e ∷ es) = with_added (put labels e.0 e.1) es

-- the blocks of nodes, once these moves are made
abbrev pub with_moves : List (Option ℕ) → List (ℕ × Option ℕ) → List (Option ℕ)
with_moves block [] = block
with_moves block (e ∷ es) = with_moves (with_put block e.0 e.1) es

-- the supports, once these are written
abbrev pub with_supports : SupportTable → List ((ℕ × ℕ) × ℕ) → SupportTable
with_supports t [] = t
with_supports t (e ∷ es) = with_supports (with_support t e.0 e.1) es

-- the label of each block as shown
abbrev pub shown_labels : Quotient → Drafted → List (Option ℕ)
shown_labels q d = with_added q.blocks.labels d.added

-- the block of each node as shown
abbrev pub shown_blocks : Quotient → Drafted → List (Option ℕ)
shown_blocks q d = with_moves q.blocks.block_of d.moves

-- the supports as shown
abbrev pub shown_supports : Quotient → Drafted → SupportTable
shown_supports q d = with_supports q.supports d.supports

-- the support of a pair of blocks as shown
abbrev pub shown_support : Quotient → Drafted → ℕ → ℕ → ℕ
shown_support q d a b = support_at (shown_supports q d) a b

-- whether two pairs are the same
abbrev pub is_pair : ℕ × ℕ → ℕ × ℕ → Bool
is_pair p q = nat_eq p.0 q.0 && nat_eq p.1 q.1

-- the node goes into this block, or into none, and all others stay
abbrev pub PutsNode : ℕ → Option ℕ → List (Option ℕ) → List (Option ℕ) → Type 0
PutsNode n b block block2 = (m : ℕ) → at block2 m ≡ (if nat_eq m n then b else at block m)

-- n is drafted for this pair, and for each other what was
abbrev pub DraftsPair : ℕ → ℕ → ℕ → List ((ℕ × ℕ) × ℕ) → List ((ℕ × ℕ) × ℕ) → Type 0
DraftsPair a b n old new = (p : ℕ × ℕ) → lookup (is_pair p) new ≡ (if is_pair p (a, b) then Some n else lookup (is_pair p) old)

-- the support of this pair is n, and no other changes
abbrev pub SetsPair : ℕ → ℕ → ℕ → (ℕ → ℕ → ℕ) → (ℕ → ℕ → ℕ) → Type 0
SetsPair a b n support support2 = (x y : ℕ) → support2 x y ≡ (if is_pair (x, y) (a, b) then n else support x y)

-- whatever the labels of the base: blocks that aren't listed have them as shown
abbrev pub LabelsStayBut : List ℕ → List (ℕ × ℕ) → Type 0
LabelsStayBut listed added = (labels : List (Option ℕ)) (b : ℕ) → has listed b ≡ false → at (with_added labels added) b ≡ at labels b

-- whatever the supports of the base: to blocks that aren't listed each block has them as shown
abbrev pub SupportsStayBut : List ℕ → List ((ℕ × ℕ) × ℕ) → Type 0
SupportsStayBut listed supports = (t : SupportTable) (a b : ℕ) → has listed b ≡ false → support_at (with_supports t supports) a b ≡ support_at t a b

-- a list to which a block is added, if there is one
abbrev pub with_left : List ℕ → Option ℕ → List ℕ
with_left left None = left
with_left left (Some b) = left ++ b ∷ []

-- whether the block has a member
abbrev pub has_member : List (Option ℕ) → ℕ → Bool
has_member block b = list_any (is_this b) block

-- the labels of blocks from this number on, without blocks that have no members
abbrev pub inhabited_from : List (Option ℕ) → ℕ → List (Option ℕ) → List (Option ℕ)
inhabited_from block b [] = []
inhabited_from block b (label ∷ labels) = cond (has_member block b) label None ∷ inhabited_from block (b + 1) labels

-- the index graph once the draft is settled: as it is shown, without blocks that have no members
abbrev pub settled_view : Quotient → Drafted → View
settled_view q d = record { block_of = shown_blocks q d; labels = inhabited_from (shown_blocks q d) 0 (shown_labels q d); supports = shown_supports q d }
