-- Edges that lead between other blocks once a node is moved.
use Rattle.std.specs.Prelude.{◌≡◌, ◌≢◌, ◌+◌, ◌<◌, ◌≤◌, ◌^◌, ◌&&◌, ℕ, Bool, true, List, Option, Some, nat_eq}
use Rattle.std.specs.List.{sum_by}
use Rattle.graph_spec.specs.Members.{at}
use Rattle.bisim_spec.specs.Supports.{joins}
use Rattle.bisim_spec.specs.NodeEdges.{joins_off}
use Rattle.bisim_spec.specs.declared.sides.Side.{Side}
use Rattle.bisim_spec.specs.declared.sides.Side.TheVariants.{Parents, Children}
use Rattle.quotient.specs.QuotientNeighbours.{one_if}
use Rattle.quotient.specs.Quotients.{Quotient}
use Rattle.quotient_draft.specs.Drafts.{Drafted, shown_blocks, shown_support}

-- whether the edge between n and m, which is a neighbour of it on this side, leads from a member of x to a member of y; a loop
-- counts as an edge from a parent alone
abbrev pub leads : Side → List (Option ℕ) → ℕ → ℕ → ℕ → ℕ → Bool
leads Parents block n x y m = joins block x y (m, n)
leads Children block n x y m = joins_off n block x y (n, m)

-- how many of the edges between n and these neighbours of it do
abbrev pub lead_count : Side → List (Option ℕ) → ℕ → ℕ → ℕ → List ℕ → ℕ
lead_count side block n x y neighbours = sum_by (λ m. one_if (leads side block n x y m)) neighbours

-- the partitions differ at n alone, which goes from one block to another
pub record MovesNode (n own b : ℕ) (block block2 : List (Option ℕ)) : Type 0 where
  -- it was in the one block
  pub before : at block n ≡ Some own
  -- it is in the other
  pub after : at block2 n ≡ Some b
  -- each other node is where it was
  pub others : (m : ℕ) → m ≢ n → at block2 m ≡ at block m

-- one edge fewer leads between the first pair of blocks, and one more between the second
abbrev pub ShiftsPair : ℕ × ℕ → ℕ × ℕ → (ℕ → ℕ → ℕ) → (ℕ → ℕ → ℕ) → Type 0
ShiftsPair before after support support2 = (x y : ℕ)
    → support2 x y + one_if (nat_eq x before.0 && nat_eq y before.1) ≡ support x y + one_if (nat_eq x after.0 && nat_eq y after.1)

-- Some edges at the node are counted by the blocks of their ends. Once the node has gone from its own block to b: the
-- supports drafted before have these edges as they led then, and those drafted now have them as they lead to and from
-- b.
abbrev pub ShiftsEdges : (List (Option ℕ) → ℕ → ℕ → ℕ) → ℕ → ℕ → ℕ → Quotient → Drafted → Drafted → Type 0
ShiftsEdges count n own b base old new = (x y : ℕ) (block2 : List (Option ℕ)) → MovesNode n own b (shown_blocks base old) block2
    → shown_support base new x y + count (shown_blocks base old) x y ≡ shown_support base old x y + count block2 x y

-- once the node has gone to b, each support has space for these edges as they lead then
abbrev pub HasSpaceFor : (List (Option ℕ) → ℕ → ℕ → ℕ) → ℕ → ℕ → ℕ → Quotient → Drafted → Type 0
HasSpaceFor count n own b base d = (x y : ℕ) (block2 : List (Option ℕ)) → MovesNode n own b (shown_blocks base d) block2
    → shown_support base d x y + count block2 x y ≤ 2 ^ 31

-- once the node has gone to b, the support of the blocks between which an edge leads then has space for it
abbrev pub HasSpaceForEdge : (List (Option ℕ) → ℕ → ℕ → Bool) → ℕ → ℕ → ℕ → Quotient → Drafted → Type 0
HasSpaceForEdge leads n own b base d = (x y : ℕ) (block2 : List (Option ℕ)) → MovesNode n own b (shown_blocks base d) block2
    → leads block2 x y ≡ true → shown_support base d x y < 2 ^ 31
