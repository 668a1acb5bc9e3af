-- The ranks of the blocks that were met, in a table.
use Rattle.std.specs.Prelude.{ℕ, ◌≡◌, ◌<◌, List, Option, Some}
use Rattle.graph_spec.specs.Shapes.{Shape}
use Rattle.graph_spec.specs.Members.{at}
use Rattle.bisim_spec.specs.Below.{count_below}
use Rattle.bisim_spec.specs.Tests.{together}
use Rattle.extent_report.specs.ListedBlocks.{is_first}
use Rattle.index_file.specs.WrittenFiles.{rank_of}

-- the blocks of the nodes below n have their ranks in the table, and no others have any
pub record AreRanks (s : Shape) (block : List (Option ℕ)) (n : ℕ) (table : List (Option ℕ)) (count : ℕ) : Type 0 where
  -- the block of each node below n has its rank in the table
  pub ranked : (m b : ℕ) → m < n → at block m ≡ Some b → at table b ≡ Some (rank_of s (together block) m)
  -- each block with a rank has a node below n
  pub met : (b k : ℕ) → at table b ≡ Some k → (m : ℕ) × (m < n) × (at block m ≡ Some b)
  -- there are as many as nodes below n that are the first of their blocks
  pub count_is : count ≡ count_below n (is_first s (together block))
