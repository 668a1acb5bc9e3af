-- What is written of a text of which many may be right, and the parts of an index file.
use Rattle.std.specs.Prelude.{ℕ, ◌≡◌, ◌++◌, List, Option}
use Rattle.std.specs.Io.KnownBytes.{Appends}
use Rattle.px_base.specs.Files.{AppendsPrefix}
use Rattle.graph_spec.specs.Graphs.{Graph}
use Rattle.index_api.specs.IndexOrder.{all_indexes}
use Rattle.index_api.specs.IndexKinds.{KeptIndexes}
use Rattle.index_file.specs.WrittenFiles.{head_text}
use Rattle.index_file.specs.SavedIndexes.{SavesIndexes}

-- a text that is right was written
pub record Wrote (Is : List ℕ → Type 0) (old new : Option (List ℕ)) : Type 0 where
  -- what was written
  pub text : List ℕ
  -- it is right
  pub is : Is text
  -- it was written whole
  pub written : Appends old new text

-- some prefix of one was
pub record WrotePart (Is : List ℕ → Type 0) (old new : Option (List ℕ)) : Type 0 where
  -- the text that was being written
  pub text : List ℕ
  -- it is right
  pub is : Is text
  -- a prefix of it was written
  pub written : AppendsPrefix old new text

-- the first of what is left was written, and the rest is left
pub record WroteNext (old new : Option (List ℕ)) (left rest : List ℕ) : Type 0 where
  -- what was written
  pub text : List ℕ
  -- it was written whole
  pub written : Appends old new text
  -- it came first in what was left, and the rest is left now
  pub left_is : left ≡ text ++ rest

-- the lines of the graph, which say so many views, and then the views with levels up to k
abbrev pub SavesParts : Graph → KeptIndexes → ℕ → ℕ → List ℕ → Type 0
SavesParts g kept k count text = (lines : List ℕ) × SavesIndexes g kept (all_indexes k) lines × (text ≡ head_text g k count ++ lines)
