-- The nodes of a file as they are read.
use Rattle.std.specs.Prelude.{ℕ, ◌≡◌, ◌≤◌, ◌<◌, List, length, map, Option, Some, option_and_then, slice_get}
use Rattle.graph_spec.specs.Members.{at}
use Rattle.index_file.specs.SavedFiles.{seen_of}
use Rattle.index_file.specs.Readings.{live_in}

-- at each allocated number the text of the node's label, where the labels have numbers
abbrev pub texts_at : List (List ℕ) → List (Option ℕ) → List (Option (List ℕ))
texts_at texts numbers = map (option_and_then (slice_get texts)) numbers

-- the labels are those of the nodes, in the order of first use, and so many nodes are live
pub record AreReadNodes (texts : List (List ℕ)) (numbers : List (Option ℕ)) (live : ℕ) : Type 0 where
  -- the labels are those of the nodes, in the order of first use
  pub seen : texts ≡ seen_of (texts_at texts numbers)
  -- each number of a label has its text
  pub below : (n l : ℕ) → at numbers n ≡ Some l → l < length texts
  -- so many nodes have a label
  pub live_is : live ≡ live_in (texts_at texts numbers)
  -- which is no more than there are numbers
  pub few : live ≤ length numbers
