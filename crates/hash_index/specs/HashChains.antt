-- Chains of the items whose hashes fall into one bucket. A link or a head is one more than a number, or 0 where there is
-- none.
use Rattle.std.specs.Prelude.{◌≡◌, ℕ, ◌-◌, ◌^◌, ◌<◌, ◌≤◌, List, Option, length, slice_index_or, bit_and}
use Rattle.hash_index.specs.declared.slots.Slot.{Slot}
use Rattle.hash_index.specs.Slots.{hashes_of, links_of}
use Rattle.hash_index.specs.Items.{hash_at, IsNewest}

-- the head of the bucket; 0 where there is no such bucket
abbrev pub head_at : List ℕ → ℕ → ℕ
head_at heads b = slice_index_or heads b 0

-- the link of the number; 0 past the end
abbrev pub link_at : List ℕ → ℕ → ℕ
link_at links n = slice_index_or links n 0

-- the bucket of a hash
abbrev pub bucket_of : List ℕ → ℕ → ℕ
bucket_of heads hash = bit_and hash (length heads - 1)

-- The chains of the first n numbers, by the bucket, the link and the heads. The head of a bucket is above each of its
-- numbers, and the link of a number above each smaller number of its bucket. So a walk along the links of a bucket meets
-- all its numbers, by falling number.
pub record IsLinked (n : ℕ) (bucket next head : ℕ → ℕ) : Type 0 where
  -- the head of a bucket is above each of its numbers
  pub head_covers : (i : ℕ) → i < n → i < head (bucket i)
  -- and at most n
  pub head_below : (b : ℕ) → head b ≤ n
  -- the number just below it is of the bucket
  pub head_is : (b : ℕ) → 0 < head b → bucket (head b - 1) ≡ b
  -- the link of a number is above each smaller number of its bucket
  pub next_covers : (i j : ℕ) → i < n → j < i → bucket j ≡ bucket i → j < next i
  -- and not above the number
  pub next_below : (i : ℕ) → i < n → next i ≤ i
  -- the number just below it is of the bucket
  pub next_is : (i : ℕ) → i < n → 0 < next i → bucket (next i - 1) ≡ bucket i

-- from the heads of buckets links lead through the first n numbers, each in the bucket of its hash
abbrev pub AreChains : ℕ → List ℕ → List ℕ → List ℕ → Type 0
AreChains n hashes links heads = IsLinked n (λ i. bucket_of heads (hash_at hashes i)) (link_at links) (head_at heads)

-- what every index keeps
pub record IsIndex {X : Type 0} (slots : List (Slot X)) (heads : List ℕ) : Type 0 where
  -- there are fewer than 2^31 items
  pub few : length slots < 2 ^ 31
  -- from the head of each bucket links lead to its items
  pub linked : AreChains (length slots) (hashes_of slots) (links_of slots) heads
  -- there is a bucket
  pub some : 0 < length heads

-- what is left of a walk through the numbers below m: those that have the hash and weren't met yet are below the link `at`
pub record IsWalk (hashes heads : List ℕ) (hash m at : ℕ) : Type 0 where
  -- the link is at most m
  pub below : at ≤ m
  -- the number just below it is of the bucket of the hash
  pub chain : 0 < at → bucket_of heads (hash_at hashes (at - 1)) ≡ bucket_of heads hash
  -- each number below m with this hash is below the link
  pub rest : (j : ℕ) → j < m → hash_at hashes j ≡ hash → j < at

-- what is found is the newest item with the hash below m, wherever a walk through the numbers below m has come to this link
abbrev pub FindsNewest : {X : Type 0} → List (Slot X) → ℕ → ℕ → Option ℕ → Type 0
FindsNewest slots hash from found =
    (heads : List ℕ) (m : ℕ) → AreChains (length slots) (hashes_of slots) (links_of slots) heads → m ≤ length slots
    → IsWalk (hashes_of slots) heads hash m from → IsNewest (hashes_of slots) hash m found
