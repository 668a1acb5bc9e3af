-- The length of the longest matching word.
use Rattle.std.specs.Prelude.{ℕ, ◌≤◌, ◌≡◌, length, max, Option, None, Some}
use Rattle.path_spec.specs.Matches.{Word}

-- The greatest length of a word of the kind, or none, where there is a word of each length or longer.
abbrev pub IsLongest : (Word → Type 0) → Option ℕ → Type 0
IsLongest P None = (n : ℕ) → (w : Word) × P w × (n ≤ length w)
IsLongest P (Some n) = ((w : Word) × P w × (length w ≡ n)) × ((w : Word) → P w → length w ≤ n)

-- the greater length, and none where one of them has no bound
abbrev pub greater : Option ℕ → Option ℕ → Option ℕ
greater None b = None
greater (Some m) None = None
greater (Some m) (Some n) = Some (max m n)
