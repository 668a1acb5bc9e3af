-- Tests of the definitions. They decide them for shapes whose nodes are below the size and whose edges join nodes.
use Rattle.std.specs.Prelude.{ℕ, zero, suc, ◌&&◌, ◌||◌, not, Bool, false, List, length, Option, None, Some, is_some, bytes_eq, nat_eq, max}
use mathlib.Core.Bool.{beq}
use Rattle.graph_spec.specs.Shapes.{Shape}
use Rattle.bisim_spec.specs.Below.{any_below, all_below}
use Rattle.bisim_spec.specs.Bisimilarity.{node_count}
use Rattle.graph_spec.specs.Members.{at, is_this}
use Rattle.bisim_spec.specs.Stability.{merged}
use Rattle.bisim_spec.specs.Reach.{reach}

-- whether both are labels, and the same
abbrev pub same_text : Option (List ℕ) → Option (List ℕ) → Bool
same_text None o = false
same_text (Some t) None = false
same_text (Some t) (Some r) = bytes_eq t r

-- whether u and v are nodes with one label
abbrev pub same_label : Shape → ℕ → ℕ → Bool
same_label s u v = same_text (s.label u) (s.label v)

-- each neighbour of u below the size is related to some neighbour of v below it
abbrev pub covers : ℕ → (ℕ → ℕ → Bool) → (ℕ → ℕ → Bool) → ℕ → ℕ → Bool
covers size neighbour_of r u v = all_below size (λ p. not (neighbour_of p u) || any_below size (λ q. neighbour_of q v && r p q))

-- each neighbour of the one is related to some neighbour of the other, as far as they are below the size
abbrev pub matched : ℕ → (ℕ → ℕ → Bool) → (ℕ → ℕ → Bool) → ℕ → ℕ → Bool
matched size neighbour_of r u v = covers size neighbour_of r u v && covers size neighbour_of r v u

-- whether an edge leads from n to c
abbrev pub is_child : Shape → ℕ → ℕ → Bool
is_child s c n = s.edge n c

-- whether u and v are bisimilar to this level
abbrev pub bis : Shape → ℕ → ℕ → ℕ → Bool
bis s zero u v = same_label s u v
bis s (suc i) u v = bis s i u v && matched s.size s.edge (bis s i) u v

-- whether u and v are bisimilar to as many levels as there are nodes
abbrev pub bisim : Shape → ℕ → ℕ → Bool
bisim s u v = bis s (node_count s) u v

-- whether u and v are bisimilar to this level over parents and children
abbrev pub both : Shape → ℕ → ℕ → ℕ → Bool
both s zero u v = same_label s u v
both s (suc i) u v = both s i u v && (matched s.size s.edge (both s i) u v && matched s.size (is_child s) (both s i) u v)

-- whether u and v are bisimilar over parents and children, to as many levels as there are nodes
abbrev pub fb : Shape → ℕ → ℕ → Bool
fb s u v = both s (node_count s) u v

-- whether both are blocks, and the same
abbrev pub same_block : Option ℕ → Option ℕ → Bool
same_block None o = false
same_block (Some a) o = is_this a o

-- whether u and v stand in one block
abbrev pub together : List (Option ℕ) → ℕ → ℕ → Bool
together block u v = same_block (at block u) (at block v)

-- each pair of numbers below the bound passes
abbrev pub all_pairs : ℕ → (ℕ → ℕ → Bool) → Bool
all_pairs n p = all_below n (λ u. all_below n (p u))

-- whether just the nodes stand in blocks
abbrev pub is_partition : Shape → List (Option ℕ) → Bool
is_partition s block = all_below (max s.size (length block)) (λ n. beq (is_some (at block n)) (is_some (s.label n)))

-- whether just the nodes stand in blocks, and two numbers below the size share one just where they are related
abbrev pub agrees : Shape → List (Option ℕ) → (ℕ → ℕ → Bool) → Bool
agrees s block r = is_partition s block && all_pairs s.size (λ u v. beq (together block u v) (r u v))

-- whether the two stand apart, or have one label, and each parent of u shares a block with one of v
abbrev pub alike : Shape → List (Option ℕ) → ℕ → ℕ → Bool
alike s block u v = not (together block u v) || (same_label s u v && covers s.size s.edge (together block) u v)

-- whether just the nodes stand in blocks, and any two are alike of which neither is excepted
abbrev pub stable_but : Shape → List (Option ℕ) → (ℕ → Bool) → Bool
stable_but s block but = is_partition s block && all_pairs s.size (λ u v. (but u || but v) || alike s block u v)

-- whether just the nodes stand in blocks, and those of one block have one label and parents in the same blocks
abbrev pub stable : Shape → List (Option ℕ) → Bool
stable s block = stable_but s block (λ n. false)

-- the same, and their children lie in the same blocks as well
abbrev pub stable_both : Shape → List (Option ℕ) → Bool
stable_both s block = stable s block && all_pairs s.size (λ u v. not (together block u v) || covers s.size (is_child s) (together block) u v)

-- whether the partition is stable once blocks a and b are one
abbrev pub mergeable : Shape → List (Option ℕ) → ℕ → ℕ → Bool
mergeable s block a b = stable s (merged a b block)

-- whether both are blocks, distinct, and can be merged
abbrev pub can_merge : Shape → List (Option ℕ) → Option ℕ → Option ℕ → Bool
can_merge s block None o = false
can_merge s block (Some a) None = false
can_merge s block (Some a) (Some b) = not (nat_eq a b) && mergeable s block a b

-- whether no two blocks of numbers below the size can be merged
abbrev pub minimal : Shape → List (Option ℕ) → Bool
minimal s block = all_pairs s.size (λ u v. not (can_merge s block (at block u) (at block v)))

-- whether no edge's beginning is reached from its end
abbrev pub acyclic : Shape → Bool
acyclic s = all_pairs s.size (λ u w. not (s.edge u w && reach s (nat_eq w) u))
