-- A line that is put together from the bytes ahead.
use Rattle.std.specs.Prelude.{◌≡◌, ℕ, ◌+◌, ◌<◌, ◌≤◌, ◌++◌, ⊤, List, [], ◌∷◌, length, Option, None, Some}
use Rattle.std.specs.Io.KnownBytes.{Consumes, prepend_known}
use Rattle.graph_spec.specs.Lines.{Line, cut, IsUncut}
use Rattle.px_base.specs.declared.line_end.LineEnd.{LineEnd}
use Rattle.px_base.specs.LineEnds.{end_bytes, IsStopped}
use Rattle.px_base.specs.ReaderStates.{IsFirst, IsOver}

-- What is ahead, up to the first LF or CR, or else all of it, went behind the line.
pub record TakesPart (most : ℕ) (ahead line rest new : List ℕ) : Type 0 where
  -- what was taken
  pub part : List ℕ
  -- it has no line end
  pub plain : IsUncut part
  -- it stands behind the line
  pub line_is : new ≡ line ++ part
  -- the line is no longer than allowed
  pub short : length new ≤ most
  -- it stood ahead
  pub ahead_is : ahead ≡ part ++ rest
  -- an end stands behind it, or nothing
  pub stopped : IsStopped rest

-- more of what is ahead stands before the first LF or CR than the line may have
pub record Overfills (most : ℕ) (ahead line : List ℕ) : Type 0 where
  -- some of what is ahead
  pub prefix : List ℕ
  -- what stands behind that
  pub rest : List ℕ
  -- it has no line end
  pub plain : IsUncut prefix
  -- with it the line is too long
  pub long : most < length line + length prefix
  -- it stands ahead
  pub ahead_is : ahead ≡ prefix ++ rest

-- some of the text ahead, none of it LF or CR, went behind the line
pub record Gathers (most : ℕ) (line new : List ℕ) (before after : Option (List ℕ)) : Type 0 where
  -- what was taken
  pub part : List ℕ
  -- it has no line end
  pub plain : IsUncut part
  -- it stands behind the line
  pub line_is : new ≡ line ++ part
  -- the line is no longer than allowed
  pub short : length new ≤ most
  -- it was taken from what is ahead, if that is observable
  pub observable : Consumes before after part

-- the same, where the text ahead is what the window holds and then what the shelf has left
abbrev pub GathersAhead : ℕ → List ℕ → List ℕ → List ℕ → Option (List ℕ) → List ℕ → Option (List ℕ) → Type 0
GathersAhead most line new window left window2 left2 = Gathers most line new (prepend_known window left) (prepend_known window2 left2)

-- more stands before the first LF or CR than the line may have
pub record IsTooLong (most : ℕ) (line : List ℕ) (before : Option (List ℕ)) : Type 0 where
  -- some of what is ahead
  pub prefix : List ℕ
  -- what stands behind that, if it is observable
  pub rest : Option (List ℕ)
  -- it has no line end
  pub plain : IsUncut prefix
  -- with it the line is too long
  pub long : most < length line + length prefix
  -- it stands ahead, if that is observable
  pub observable : Consumes before rest prefix

-- the text was over before the line, and nothing was taken
pub record IsDone (line window : List ℕ) (before after : Option (List ℕ)) : Type 0 where
  -- the line is empty
  pub empty : line ≡ []
  -- so is what was read ahead
  pub drained : window ≡ []
  -- the text was over before, and is so still
  pub over_before : IsOver before
  pub over_after : IsOver after

-- a line was taken with its end, both within the limits, or nothing where the text is over
pub record GathersLine (line_limit most : ℕ) (line : List ℕ) (end : LineEnd) (window : List ℕ) (before after : Option (List ℕ)) : Type 0 where
  -- the line is within its limit
  pub short : length line ≤ line_limit
  -- with its end it is no longer than allowed
  pub fits : length line + length (end_bytes end) ≤ most
  -- if there is one, it is the first line of the text
  pub first : 0 < length line + length (end_bytes end) → IsFirst (record { text = line; end = end_bytes end }) before after
  -- if there is none, the text is over
  pub done : length line + length (end_bytes end) ≡ 0 → IsDone line window before after

-- the same, where the text ahead is what the window holds and then what the shelf has left
abbrev pub TakesWhole : ℕ → ℕ → List ℕ → LineEnd → List ℕ → Option (List ℕ) → List ℕ → Option (List ℕ) → Type 0
TakesWhole line_limit most line end window left window2 left2 =
    GathersLine line_limit most line end window2 (prepend_known window left) (prepend_known window2 left2)

-- the first line of an observable text has more bytes than the line's limit, or with its end more than are allowed
abbrev pub IsLong : ℕ → ℕ → Option (List ℕ) → Type 0
IsLong line_limit most None = ⊤
IsLong line_limit most (Some text) =
    (l : Line) × (rest : List Line) × (cut text ≡ l ∷ rest) × ¬ ((length l.text ≤ line_limit) × (length l.text + length l.end ≤ most))
