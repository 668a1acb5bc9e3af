-- What the words of the command line can ask for.
use Rattle.std.specs.Prelude.{ℕ, ◌≤◌, ⊤, Bool, List, Option}

-- what a script is run with
pub record Settings : Type 0 where
  -- the name of the script's file
  pub script : List ℕ
  -- the name of the graph's file, if one is loaded first
  pub graph : Option (List ℕ)
  -- the highest level of the indexes that are kept
  pub k : ℕ
  -- whether no 1-index is kept, and no forward and backward index
  pub without_one : Bool
  pub without_fb : Bool
  -- whether the bounded forward and backward indexes are kept
  pub with_bk : Bool

-- what the words ask for
pub data Form : Type 0 where
  -- a script is run
  runs : Settings → Form
  -- the texts that are made from this seed are run
  makes : ℕ → Form
  -- the index file of this name is checked
  checks : List ℕ → Form
  -- the words are malformed
  neither : Form

-- a level, where there is one, is at most 8
abbrev pub HasLevel : Form → Type 0
HasLevel (runs s) = s.k ≤ 8
HasLevel (makes seed) = ⊤
HasLevel (checks file) = ⊤
HasLevel neither = ⊤
