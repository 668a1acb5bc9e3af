-- Which blocks of an index are drawn, and which pairs of them.
use Rattle.std.specs.Prelude.{ℕ, zero, suc, ◌*◌, ◌∷◌, ◌++◌, ◌&&◌, ◌||◌, not, Bool, List, [], Option, Some, None, if◌then◌else◌, length, nat_eq, nat_le, nat_lt, unwrap_or, slice_index_or}
use Rattle.std.specs.List.{flat_map, remove}
use Rattle.graph_spec.specs.Members.{at, has, is_this}
use Rattle.bisim_spec.specs.Below.{any_below, all_below}
use Rattle.bisim_spec.specs.IndexGraphs.{support_at}
use Rattle.block_partition.specs.LabelledPartitions.{Partition, is_member, member_count}
use Rattle.quotient.specs.Quotients.{Quotient}
use Rattle.index_picture.specs.declared.blocks.Block.{Block}
use Rattle.index_picture.specs.declared.pairs.Pair.{Pair}

-- the number of a block's label
abbrev pub label_in : Partition → ℕ → ℕ
label_in p b = unwrap_or (at p.labels b) 0

-- the block b, if n is the least of its nodes
abbrev pub if_begun : Partition → ℕ → Option ℕ → List Block
if_begun p n None = []
if_begun p n (Some b) =
    if any_below n (is_member p b) then []
    else record { number = b; first = n; count = member_count p b; label = label_in p b } ∷ []

-- the block of which n is the least node, if there is one
abbrev pub block_begun_by : Partition → ℕ → List Block
block_begun_by p n = if_begun p n (at p.block_of n)

-- the blocks whose least nodes are below n, by rising least nodes
abbrev pub blocks_below : Partition → ℕ → List Block
blocks_below p zero = []
blocks_below p (suc n) = blocks_below p n ++ block_begun_by p n

-- all blocks
abbrev pub blocks_of : Partition → List Block
blocks_of p = blocks_below p (length p.block_of)

-- where a list has no block
abbrev pub no_block : Block
no_block = record { number = 0; first = 0; count = 0; label = 0 }

-- where a list has no pair
abbrev pub no_pair : Pair
no_pair = record { from = no_block; onto = no_block; support = 0 }

-- the place of the lightest of the first n; of equals the last
abbrev pub lightest : {X : Type 0} → (X → ℕ) → X → List X → ℕ → ℕ
lightest weight none xs zero = 0
lightest weight none xs (suc n) =
    if nat_le (weight (slice_index_or xs n none)) (weight (slice_index_or xs (lightest weight none xs n) none)) then n else lightest weight none xs n

-- all of them if they are no more than `most`; otherwise the lightest goes
abbrev pub without_lightest : {X : Type 0} → ℕ → (X → ℕ) → X → List X → List X
without_lightest most weight none xs = if nat_le (length xs) most then xs else remove xs (lightest weight none xs (length xs))

-- Those that are kept, if these follow: each is put behind the others, and where these are more than `most`, the lightest goes.
abbrev pub heaviest_with : {X : Type 0} → ℕ → (X → ℕ) → X → List X → List X → List X
heaviest_with most weight none kept [] = kept
heaviest_with most weight none kept (x ∷ xs) = heaviest_with most weight none (without_lightest most weight none (kept ++ x ∷ [])) xs

-- the `most` heaviest, in their order; of equals the first
abbrev pub heaviest : {X : Type 0} → ℕ → (X → ℕ) → X → List X → List X
heaviest most weight none xs = heaviest_with most weight none [] xs

-- the blocks that are drawn: those with the most nodes; ties go to the block with the smaller least node
abbrev pub drawn_blocks : ℕ → Partition → List Block
drawn_blocks most p = heaviest most (λ b. b.count) no_block (blocks_of p)

-- the pair of two blocks with this support, if it isn't 0
abbrev pub if_supported : Block → Block → ℕ → List Pair
if_supported a b zero = []
if_supported a b (suc n) = record { from = a; onto = b; support = suc n } ∷ []

-- the pair of two blocks, if an edge leads from a node of the one to a node of the other
abbrev pub pair_of : Quotient → Block → Block → List Pair
pair_of q a b = if_supported a b (support_at q.supports a.number b.number)

-- the pairs of these blocks
abbrev pub pairs_of : Quotient → List Block → List Pair
pairs_of q bs = flat_map (λ a. flat_map (pair_of q a) bs) bs

-- the pairs that are drawn: twice as many as blocks, those of the greatest support
abbrev pub drawn_pairs : ℕ → Quotient → List Pair
drawn_pairs most q = heaviest (most * 2) (λ p. p.support) no_pair (pairs_of q (drawn_blocks most q.blocks))

-- the first of the numbers below n that pass, rising, at most so many of them
abbrev pub firsts_below : ℕ → (ℕ → Bool) → ℕ → List ℕ
firsts_below most p zero = []
firsts_below most p (suc n) =
    if p n && nat_lt (length (firsts_below most p n)) most then firsts_below most p n ++ n ∷ [] else firsts_below most p n

-- a parent of the node is in the block, where these are the edges
abbrev pub has_parent_in : (ℕ → ℕ → Bool) → List (Option ℕ) → ℕ → ℕ → Bool
has_parent_in edge block a v = any_below (length block) (λ u. edge u v && is_this a (at block u))

-- each node of the block b has a parent in the block a
abbrev pub covers : (ℕ → ℕ → Bool) → List (Option ℕ) → ℕ → ℕ → Bool
covers edge block a b = all_below (length block) (λ v. not (is_this b (at block v)) || has_parent_in edge block a v)

-- the labels and this one, if it isn't among them
abbrev pub with_label : List ℕ → ℕ → List ℕ
with_label used l = if has used l then used else used ++ l ∷ []

-- the labels and those of the blocks, each once, in the order of their first use
abbrev pub labels_with : List ℕ → List Block → List ℕ
labels_with used [] = used
labels_with used (b ∷ bs) = labels_with (with_label used b.label) bs

-- the labels of blocks
abbrev pub labels_used : List Block → List ℕ
labels_used bs = labels_with [] bs
