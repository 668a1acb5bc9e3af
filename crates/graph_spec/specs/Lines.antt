-- A text as the list of its lines.
use Rattle.std.specs.Prelude.{ℕ, ◌==◌, ◌≢◌, if◌then◌else◌, List, [], ◌∷◌}

-- a line, and the bytes that end it
pub record Line : Type 0 where
  -- the line without its end
  pub text : List ℕ
  -- LF, CR LF, CR, or nothing
  pub end : List ℕ

-- the lines, with the byte put before the first
abbrev pub onto : ℕ → List Line → List Line
onto b [] = record { text = b ∷ []; end = [] } ∷ []
onto b (l ∷ ls) = record { text = b ∷ l.text; end = l.end } ∷ ls

-- an empty line with this end
abbrev pub ended : List ℕ → Line
ended end = record { text = []; end = end }

-- CR (13) put before a text that has these lines: it ends a line, and together with an LF after it is one end
abbrev pub return_onto : List ℕ → List Line → List Line
return_onto [] ls = ended (13 ∷ []) ∷ ls
return_onto (b ∷ bs) [] = ended (13 ∷ []) ∷ []
return_onto (b ∷ bs) (l ∷ ls) = if b == 10 then (ended (13 ∷ 10 ∷ []) ∷ ls) else (ended (13 ∷ []) ∷ l ∷ ls)

-- A line ends at LF (10), at CR followed by LF, which is one end, or at a CR that no LF follows. The last line needs no
-- end, and an end that nothing follows begins no further line.
abbrev pub cut : List ℕ → List Line
cut [] = []
cut (b ∷ bs) = if b == 10 then (ended (10 ∷ []) ∷ cut bs) else (if b == 13 then return_onto bs (cut bs) else onto b (cut bs))

-- no byte of the text is LF or CR
abbrev pub IsUncut : List ℕ → Type 0
IsUncut [] = Unit {0}
IsUncut (b ∷ bs) = (b ≢ 10) × (b ≢ 13) × IsUncut bs
