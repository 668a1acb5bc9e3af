-- The labels of a file as they are read.
use Rattle.std.specs.Prelude.{ℕ, ◌≡◌, ◌≤◌, ◌&&◌, not, List, length, Some, slice_get, nat_le, bytes_eq, Bool, true, false}
use Rattle.std.specs.List.{IsDistinct}
use Rattle.graph_spec.specs.Graphs.{is_seen}
use Rattle.graph_spec.specs.Changes.{with_label}
use Rattle.path_query.specs.Labels.{SpellsLabel}

-- each once, and each a label that is spelled as it is
pub record AreReadLabels (texts : List (List ℕ)) : Type 0 where
  -- no label stands twice
  pub once : IsDistinct bytes_eq texts
  -- there are fewer than 2^32
  pub few : length texts ≤ 4294967295
  -- each is spelled as it is
  pub spelled : (l : ℕ) (t : List ℕ) → slice_get texts l ≡ Some t → SpellsLabel t t

-- whether the label is one more than there may be
abbrev pub is_too_many : ℕ → List (List ℕ) → List ℕ → Bool
is_too_many most texts t = not (is_seen texts t) && nat_le most (length texts)

-- the label has this number then, behind those that were there where it is new
pub record IsInterned (label : List ℕ) (most : ℕ) (old new : List (List ℕ)) (l : ℕ) : Type 0 where
  -- it isn't one too many
  pub fits : is_too_many most old label ≡ false
  -- the labels are those that were there, and then this one if it is new
  pub kept : new ≡ with_label old label
  -- it has this number
  pub placed : slice_get new l ≡ Some label

-- the word spells a label that has this number then, behind those that were there where it is new
pub record IsNumbered (word : List ℕ) (most : ℕ) (old new : List (List ℕ)) (l : ℕ) : Type 0 where
  -- the label that the word spells
  pub label : List ℕ
  -- the word spells it
  pub spelled : SpellsLabel word label
  -- it has this number; if it is new it stands behind those that were there
  pub interned : IsInterned label most old new l

-- the word spells a label that is one too many
pub record IsOneTooMany (word : List ℕ) (most : ℕ) (old : List (List ℕ)) : Type 0 where
  -- the label that the word spells
  pub label : List ℕ
  -- the word spells it
  pub spelled : SpellsLabel word label
  -- it is new, and there are as many as there may be
  pub over : is_too_many most old label ≡ true
