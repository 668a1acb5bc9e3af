-- What a round changed about the neighbours of nodes: the blocks to which they came, and those which all of them left.
use Rattle.std.specs.Prelude.{ℕ, ◌≡◌, ◌≢◌, ◌<◌, ◌*◌, ◌/◌, ◌%◌, ◌^◌, ◌⊎◌, ◌||◌, ◌&&◌, nat_eq, Bool, true, List, ◌∷◌, length, Option, Some, IsTrue, slice_get}
use Rattle.std.specs.List.Sorted.{IsStrictlyIncreasing}
use Rattle.graph_spec.specs.Members.{at, has}
use Rattle.bisim_spec.specs.Bisimilarity.{Matched}
use Rattle.bisim_spec.specs.Partitions.{Together}
use Rattle.hash_index.specs.Items.{Items}
use Rattle.round_refinement.specs.Active.{StayTogether, number_in}
use Rattle.round_refinement.specs.Listing.{IsOn}

-- Bits from the middle of a product: numbers that stand a power of two apart differ in the lower ones, by which an index finds its items. That it
-- is a function of the number is all that lists need of it.
unfoldable pub spread_of : ℕ → ℕ
spread_of n = (n * 0x2545F4914F6CDD1D) % 2 ^ 64 / 2 ^ 32

-- p is on the list of n
abbrev pub IsNear : Items (ℕ × ℕ) → ℕ → ℕ → Type 0
IsNear near n p = IsOn near (spread_of n) (n, p)

-- q is on the lists of these, and the lists have nothing else that is new
pub record PutsNear (of : ℕ → Bool) (q : ℕ) (old new : Items (ℕ × ℕ)) : Type 0 where
  -- what was on a list stays there
  pub kept : (n p : ℕ) → IsNear old n p → IsNear new n p
  -- q is on the list of each of these
  pub put : (n : ℕ) → of n ≡ true → IsNear new n q
  -- nothing else has come to a list
  pub only : (n p : ℕ) → IsNear new n p → IsNear old n p ⊎ ((of n ≡ true) × (p ≡ q))

-- on the list of each number there are those of its neighbours that moved
pub record AreNear (neighbour_of : ℕ → ℕ → Bool) (before now : List (Option ℕ)) (near : Items (ℕ × ℕ)) : Type 0 where
  -- what is on the list of n is a neighbour of n, and has another block now
  pub each : (n p : ℕ) → IsNear near n p → IsTrue (neighbour_of p n) × (at now p ≢ at before p)
  -- each such neighbour is there
  pub every : (n p : ℕ) → IsTrue (neighbour_of p n) → at now p ≢ at before p → IsNear near n p

-- these are on the list of n
pub record AreOn (near : Items (ℕ × ℕ)) (n : ℕ) (nodes : List ℕ) : Type 0 where
  -- each of these is on the list
  pub each : (p : ℕ) → has nodes p ≡ true → IsNear near n p
  -- nothing else is on it
  pub every : (p : ℕ) → IsNear near n p → has nodes p ≡ true

-- what stands beside n is put behind the others, if the item is one of n
abbrev pub PushesIfNear : ℕ → ℕ × ℕ → List ℕ → List ℕ → Type 0
PushesIfNear n item old new = (p : ℕ) → has new p ≡ (has old p || (nat_eq item.0 n && nat_eq p item.1))

-- a neighbour came to the block
pub record IsGained (neighbour_of : ℕ → ℕ → Bool) (before now : List (Option ℕ)) (n b : ℕ) : Type 0 where
  -- a neighbour that moved
  pub neighbour : ℕ
  -- it is a neighbour of n
  pub is_one : IsTrue (neighbour_of neighbour n)
  -- its block is another one now
  pub moves : at now neighbour ≢ at before neighbour
  -- it is b
  pub is_there : at now neighbour ≡ Some b

-- no neighbour is in the block
abbrev pub IsLeft : (ℕ → ℕ → Bool) → List (Option ℕ) → ℕ → ℕ → Type 0
IsLeft neighbour_of now n b = (p : ℕ) → IsTrue (neighbour_of p n) → at now p ≢ Some b

-- a neighbour was in the block, and none is now
pub record IsLost (neighbour_of : ℕ → ℕ → Bool) (before now : List (Option ℕ)) (n b : ℕ) : Type 0 where
  -- a neighbour that was in the block
  pub neighbour : ℕ
  -- it is a neighbour of n
  pub is_one : IsTrue (neighbour_of neighbour n)
  -- it was in b
  pub was_there : at before neighbour ≡ Some b
  -- no neighbour of n is in b now
  pub left : IsLeft neighbour_of now n b

-- those of the blocks are put behind the others in which n has no neighbour
pub record LosesSome (neighbour_of : ℕ → ℕ → Bool) (now : List (Option ℕ)) (n : ℕ) (left old new : List ℕ) : Type 0 where
  -- blocks that were there stay
  pub kept : (b : ℕ) → has old b ≡ true → has new b ≡ true
  -- each of the blocks in which n has no neighbour now is there
  pub put : (b : ℕ) → has left b ≡ true → IsLeft neighbour_of now n b → has new b ≡ true
  -- nothing else has come
  pub only : (b : ℕ) → has new b ≡ true → (has old b ≡ true) ⊎ ((has left b ≡ true) × IsLeft neighbour_of now n b)

-- the blocks that were gained or lost, rising, each once
pub record AreChanges (neighbour_of : ℕ → ℕ → Bool) (before now : List (Option ℕ)) (n : ℕ) (changes : List ℕ) : Type 0 where
  -- the blocks rise
  pub rising : IsStrictlyIncreasing changes
  -- each was gained or lost
  pub each : (b : ℕ) → has changes b ≡ true → IsGained neighbour_of before now n b ⊎ IsLost neighbour_of before now n b
  -- all that were gained or lost are there
  pub gained : (b : ℕ) → IsGained neighbour_of before now n b → has changes b ≡ true
  pub lost : (b : ℕ) → IsLost neighbour_of before now n b → has changes b ≡ true

-- the number of the key that is made of a number of its own and its changes, by a table of keys
pub record IsNumber (neighbour_of : ℕ → ℕ → Bool) (before now : List (Option ℕ)) (table : List (List ℕ)) (n own k : ℕ) : Type 0 where
  -- the blocks that were gained or lost
  pub changes : List ℕ
  -- the key is the node's own number and then these, and k is its place in the table
  pub key_at : slice_get table k ≡ Some (own ∷ changes)
  -- these are just what changed about the neighbours of n
  pub are_changes : AreChanges neighbour_of before now n changes

-- keys that were there stay, and the node has this number
pub record TakesNumber (neighbour_of : ℕ → ℕ → Bool) (before now : List (Option ℕ)) (old new : List (List ℕ)) (n own k : ℕ) : Type 0 where
  -- each key that was in the table keeps its place
  pub stay : (j : ℕ) (key : List ℕ) → slice_get old j ≡ Some key → slice_get new j ≡ Some key
  -- if the node has a block, k is the number of its key
  pub number : (b : ℕ) → at now n ≡ Some b → IsNumber neighbour_of before now new n own k

-- the two are in one block, and each neighbour of the one stayed together with one of the other
pub record AreSame (neighbour_of : ℕ → ℕ → Bool) (before now : List (Option ℕ)) (u v : ℕ) : Type 0 where
  -- the two are in one block
  pub own : Together now u v
  -- each neighbour of the one stayed with some neighbour of the other, and the other way round
  pub neighbours : Matched (λ p n. IsTrue (neighbour_of p n)) (StayTogether before now) u v

-- active nodes that have one number still have one, if their neighbours stayed together
pub record AreParted (neighbour_of : ℕ → ℕ → Bool) (before now : List (Option ℕ)) (active own numbers : List ℕ) : Type 0 where
  -- there is a number for each active node
  pub length_is : length numbers ≡ length active
  -- two nodes with the same number of their own have one number here too, if their neighbours stayed together
  pub same : (i j : ℕ) → i < length active → j < length active → AreSame neighbour_of before now (number_in active i) (number_in active j)
      → number_in own i ≡ number_in own j → number_in numbers i ≡ number_in numbers j

-- the numbers of the nodes' blocks
pub record AreBlocksOf (block : List (Option ℕ)) (nodes numbers : List ℕ) : Type 0 where
  -- there is a number for each node
  pub length_is : length numbers ≡ length nodes
  -- it is that of the node's block, if it has one
  pub each : (i b : ℕ) → i < length nodes → at block (number_in nodes i) ≡ Some b → number_in numbers i ≡ b
