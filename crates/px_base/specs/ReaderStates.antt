-- What a reader of lines keeps, and what a call of `next` makes of the text that lies ahead.
use Rattle.std.specs.Prelude.{◌≡◌, ℕ, ◌+◌, ◌^◌, ◌<◌, ◌≤◌, ⊤, Bool, false, List, [], ◌∷◌, length, Option, None, Some}
use Rattle.std.specs.Io.KnownBytes.{prepend_known}
use Rattle.graph_spec.specs.Lines.{Line, cut}

-- the text that was read ahead, the line, the counts, the limits, and whether a call failed
pub record ReaderState : Type 0 where
  -- the bytes that were read and belong to no line yet
  pub ahead : List ℕ
  -- the line, without its end, and its number from 1 on; 0 before the first
  pub line : List ℕ
  pub number : ℕ
  -- the bytes of the lines that were taken, with their ends
  pub taken : ℕ
  -- the most bytes of a line without its end, and of a text
  pub line_limit : ℕ
  pub text_limit : ℕ
  -- whether a call answered an error
  pub failed : Bool

-- a reader that has taken nothing
abbrev pub new_reader : ℕ → ℕ → ReaderState
new_reader line_limit text_limit =
    record { ahead = []; line = []; number = 0; taken = 0; line_limit = line_limit; text_limit = text_limit; failed = false }

-- both limits are at most 2^30, what was taken is within the text's, and until a call fails each line took a byte or more
abbrev pub StaysWithin : ℕ → ℕ → ℕ → ℕ → Bool → Type 0
StaysWithin line_limit text_limit taken number failed = (line_limit ≤ 2 ^ 30) × (text_limit ≤ 2 ^ 30) × (taken ≤ text_limit) × (failed ≡ false → number ≤ taken)

-- ahead of the reader lies what it read ahead, and then what the shelf has left
abbrev pub stream : ReaderState → Option (List ℕ) → Option (List ℕ)
stream r left = prepend_known r.ahead left

-- the reader may take the line
abbrev pub IsReadable : ReaderState → Line → Type 0
IsReadable r l = (length l.text ≤ r.line_limit) × (r.taken + length l.text + length l.end ≤ r.text_limit)

-- the line is the first of an observable text, and the others are those of what is ahead after it
abbrev pub IsFirst : Line → Option (List ℕ) → Option (List ℕ) → Type 0
IsFirst l None after = ⊤
IsFirst l (Some text) None = ⊥
IsFirst l (Some text) (Some rest) = cut text ≡ l ∷ cut rest

-- A line was taken from the text ahead: its first, if the text is observable.
pub record ReadsLine (old new : ReaderState) (before after : Option (List ℕ)) : Type 0 where
  -- the line
  pub first : Line
  -- it has a byte, with its end
  pub some : 0 < length first.text + length first.end
  -- it is within the limits
  pub within : IsReadable old first
  -- it is the first of the text, if that is observable
  pub observable : IsFirst first before after
  -- the reader has it, and counts it and its bytes
  pub passed : new ≡ record old {
    ahead = new.ahead;
    line = first.text;
    number = old.number + 1;
    taken = old.taken + length first.text + length first.end;
  }

-- no text is ahead
abbrev pub IsOver : Option (List ℕ) → Type 0
IsOver None = ⊤
IsOver (Some text) = text ≡ []

-- the text is over, and nothing was taken
pub record Finishes (old new : ReaderState) (before after : Option (List ℕ)) : Type 0 where
  -- the text was over before, and is so still
  pub over_before : IsOver before
  pub over_after : IsOver after
  -- the reader has no line, and its counts stay
  pub kept : new ≡ record old { ahead = []; line = [] }

-- a line was taken, where the shelf has this left of its file before and after
abbrev pub TakesLine : ReaderState → Option (List ℕ) → ReaderState → Option (List ℕ) → Type 0
TakesLine old left new left2 = ReadsLine old new (stream old left) (stream new left2)

-- the text is over
abbrev pub TakesNone : ReaderState → Option (List ℕ) → ReaderState → Option (List ℕ) → Type 0
TakesNone old left new left2 = Finishes old new (stream old left) (stream new left2)

-- a line passes a limit, the first of the text where that is observable
abbrev pub IsPast : ReaderState → Option (List ℕ) → Type 0
IsPast r None = ⊤
IsPast r (Some text) = (l : Line) × (rest : List Line) × (cut text ≡ l ∷ rest) × ¬ IsReadable r l
