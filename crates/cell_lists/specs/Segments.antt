-- Lists that lie among the cells of one array, or in a segment itself.
use Rattle.std.specs.Prelude.{◌≡◌, ℕ, ◌+◌, ◌<◌, ◌≤◌, ◌⊎◌, ◌&&◌, not, List, [], ◌∷◌, ◌++◌, length, take, drop, nat_eq, nat_lt, if◌then◌else◌}
use Rattle.std.specs.List.{IsDistinct}
use Rattle.graph_spec.specs.Members.{has}
use Rattle.cell_lists.specs.declared.segment.Segment.{Segment}

-- the numbers of a list: it lies among the cells, or in the segment itself where its capacity is one
abbrev pub items_in : List ℕ → Segment → List ℕ
items_in cells s = if nat_lt s.reserved 2 then take s.len (s.first ∷ []) else take s.len (drop s.first cells)

-- a list with its whole capacity lies among that many cells
pub record LiesWithin (size : ℕ) (s : Segment) : Type 0 where
  -- the list is no longer than its capacity
  pub fits : s.len ≤ s.reserved
  -- if it takes cells, they end within the size
  pub ends : 2 ≤ s.reserved → s.first + s.reserved ≤ size

-- no cell belongs to both
abbrev pub IsApart : Segment → Segment → Type 0
IsApart s t = 2 ≤ s.reserved → 2 ≤ t.reserved → (s.first + s.reserved ≤ t.first) ⊎ (t.first + t.reserved ≤ s.first)

-- the new list begins with the old one
abbrev pub Begins : List ℕ → List ℕ → Type 0
Begins old new = (more : List ℕ) × (new ≡ old ++ more)

-- one list is rewritten, from s to t, and each that is apart from it stays as it is
pub record Writes (old new : List ℕ) (s t : Segment) : Type 0 where
  -- the new list lies among the cells
  pub within : LiesWithin (length new) t
  -- no cell is lost
  pub longer : length old ≤ length new
  -- a list that was apart from the old one is apart from the new one
  pub apart : (u : Segment) → LiesWithin (length old) u → IsApart s u → IsApart t u
  -- and has the same numbers
  pub others : (u : Segment) → LiesWithin (length old) u → IsApart s u → items_in new u ≡ items_in old u

-- the list t lies behind all old cells, with the numbers of s and more capacity
pub record IsMoved (old new : List ℕ) (s t : Segment) : Type 0 where
  -- the list lies among the cells
  pub within : LiesWithin (length new) t
  -- it begins behind the old ones
  pub behind : t.first ≡ length old
  -- it takes cells of its own
  pub long : 2 ≤ t.reserved
  -- it has the same numbers
  pub items : items_in new t ≡ items_in old s
  -- just as many
  pub len : t.len ≡ s.len
  -- and more capacity
  pub reserved : s.reserved < t.reserved

-- the numbers of the list s stand in the cells of r, and nothing else is written
pub record IsCopied (old new : List ℕ) (s r : Segment) : Type 0 where
  -- there are as many cells
  pub size : length new ≡ length old
  -- the numbers stand where r begins
  pub copied : take s.len (drop r.first new) ≡ items_in old s
  -- each list apart from r has the numbers that it had
  pub others : (u : Segment) → LiesWithin (length old) u → IsApart r u → items_in new u ≡ items_in old u

-- the lists s and r, apart from each other, have each other's cells as t and q, or their own, and no other is written
pub record Exchanges (old new : List ℕ) (s r t q : Segment) : Type 0 where
  -- there are as many cells
  pub size : length new ≡ length old
  -- both lists lie among them
  pub list_within : LiesWithin (length new) t
  pub vacant_within : LiesWithin (length new) q
  -- they are apart from each other
  pub between : IsApart t q
  -- what was apart from both is so still
  pub list_apart : (u : Segment) → IsApart s u → IsApart r u → IsApart t u
  pub vacant_apart : (u : Segment) → IsApart s u → IsApart r u → IsApart q u
  -- and has the same numbers
  pub others : (u : Segment) → LiesWithin (length old) u → IsApart s u → IsApart r u → items_in new u ≡ items_in old u
  -- t has the numbers of s, and q those of r
  pub list_items : items_in new t ≡ items_in old s
  pub vacant_items : items_in new q ≡ items_in old r
  -- t has no less capacity than s
  pub more : s.reserved ≤ t.reserved

-- the list has the others that it had, each once, and not that number
pub record IsWithout (old new : List ℕ) (n : ℕ) : Type 0 where
  -- no number stands twice
  pub once : IsDistinct nat_eq new
  -- the list has what it had, but for n
  pub members : (m : ℕ) → has new m ≡ (not (nat_eq m n) && has old m)
