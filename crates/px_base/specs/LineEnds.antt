-- The ends of lines, and what is known of them from the bytes ahead.
use Rattle.std.specs.Prelude.{◌≡◌, ◌≢◌, ◌==◌, ◌||◌, ◌⊎◌, ℕ, ◌<◌, ◌≤◌, ⊤, Bool, false, List, [], ◌∷◌, length, slice_get, Option, None, Some}
use Rattle.std.specs.Io.KnownBytes.{Consumes, IsAtEnd}
use Rattle.px_base.specs.declared.line_end.LineEnd.{LineEnd}
use Rattle.px_base.specs.declared.line_end.LineEnd.TheVariants.{Feed, Return, ReturnFeed, Over}

-- A whole end is among the bytes: LF, or a CR with a byte behind it. So the first of their lines is known.
abbrev pub has_end : List ℕ → Bool
has_end [] = false
has_end (b ∷ []) = b == 10
has_end (b ∷ c ∷ cs) = b == 10 || (b == 13 || has_end (c ∷ cs))

-- the bytes of an end
abbrev pub end_bytes : LineEnd → List ℕ
end_bytes Feed = 10 ∷ []
end_bytes Return = 13 ∷ []
end_bytes ReturnFeed = 13 ∷ 10 ∷ []
end_bytes Over = []

-- what is left after an end: no LF after a CR, and nothing where the text is over
abbrev pub IsWhole : LineEnd → Option (List ℕ) → Type 0
IsWhole Feed after = ⊤
IsWhole Return None = ⊤
IsWhole Return (Some text) = slice_get text 0 ≢ Some 10
IsWhole ReturnFeed after = ⊤
IsWhole Over after = IsAtEnd after

-- an end was taken, of at most so many bytes
pub record TakesEnd (most : ℕ) (end : LineEnd) (before after : Option (List ℕ)) : Type 0 where
  -- the end has no more bytes than are allowed
  pub fits : length (end_bytes end) ≤ most
  -- it was taken from what is ahead, if that is observable
  pub observable : Consumes before after (end_bytes end)
  -- nothing of the end is left
  pub whole : IsWhole end after

-- the end ahead has more bytes than are allowed
pub record EndPasses (most : ℕ) (before : Option (List ℕ)) : Type 0 where
  -- the end ahead
  pub end : LineEnd
  -- what stands behind it, if that is observable
  pub rest : Option (List ℕ)
  -- it has more bytes than are allowed
  pub long : most < length (end_bytes end)
  -- it stands ahead, if that is observable
  pub observable : Consumes before rest (end_bytes end)

-- no byte is there, or the first begins an end
abbrev pub IsStopped : List ℕ → Type 0
IsStopped [] = ⊤
IsStopped (b ∷ bs) = (b ≡ 10) ⊎ (b ≡ 13)

-- an end is ahead, or the text is over
pub record IsAtStop (window : List ℕ) (left : Option (List ℕ)) : Type 0 where
  -- an end begins the window, or nothing is in it
  pub stopped : IsStopped window
  -- in that case nothing is left either
  pub over : window ≡ [] → IsAtEnd left
