-- What a shelf and a sink in memory tell.
use Rattle.std.specs.Prelude.{◌≡◌, ℕ, ◌≤◌, List, drop, length, Option, None, Some, Vec, slice_get, option_map}
use Rattle.std.specs.Global.{Global}
use Rattle.px_base.specs.Files.{File}

-- what a shelf has in memory, and which of its calls fail
pub record ShelfInMemory : Type 0 where
  -- the files, each by its name
  pub files : List File
  -- what is left of the open file; none where no file is open
  pub left : Option (List ℕ)
  -- the most bytes that one read moves
  pub piece : ℕ
  -- the numbers of the calls that fail, from 1 on, the calls that were made, and the faults among them
  pub failing : List ℕ
  pub calls : ℕ
  pub faults : ℕ

-- what was written to a sink in memory, how many bytes it holds at most, and which of its calls fail
pub record SinkInMemory : Type 0 where
  -- all that was written
  pub written : List ℕ
  -- the most bytes that are written in all, and by one call
  pub capacity : ℕ
  pub piece : ℕ
  -- the numbers of the calls that fail, from 1 on, the calls that were made, and the faults among them
  pub failing : List ℕ
  pub calls : ℕ
  pub faults : ℕ

-- a name and bytes, as a file
abbrev pub file_of : List ℕ × Vec ℕ Global → File
file_of f = record { name = f.0; bytes = f.1.items }

-- what is left of the file at that place of the list, from that byte on
abbrev pub left_of : List (List ℕ × Vec ℕ Global) → Option ℕ → ℕ → Option (List ℕ)
left_of files None next = None
left_of files (Some at) next = option_map (λ f. drop next f.1.items) (slice_get files at)

-- the open file stands in the list, and so many of its bytes have been read
abbrev pub IsAt : List (List ℕ × Vec ℕ Global) → Option ℕ → ℕ → Type 0
IsAt files None next = Unit {0}
IsAt files (Some at) next = (f : List ℕ × Vec ℕ Global) × (slice_get files at ≡ Some f) × (next ≤ length f.1.items)
