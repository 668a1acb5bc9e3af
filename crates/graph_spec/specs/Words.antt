-- The words of a line, and names.
use Rattle.std.specs.Prelude.{ℕ, ◌==◌, ◌||◌, ◌&&◌, not, Bool, List, ◌∷◌, length, decimal, filter, nat_le, IsTrue, slice_index, drop}
use Rattle.std.specs.List.{slice_split, list_all}

-- space and tab
abbrev pub is_blank : ℕ → Bool
is_blank b = b == 32 || b == 9

-- spaces and tabs alone, or nothing
abbrev pub AreBlanks : List ℕ → Type 0
AreBlanks bs = IsTrue (list_all is_blank bs)

-- the parts of a line between its blanks
abbrev pub words : List ℕ → List (List ℕ)
words line = filter (λ w. not (length w == 0)) (slice_split is_blank line)

-- A to Z and a to z
abbrev pub is_letter : ℕ → Bool
is_letter b = (nat_le 65 b && nat_le b 90) || (nat_le 97 b && nat_le b 122)

-- letters, 0 to 9, _ and -
abbrev pub is_name_byte : ℕ → Bool
is_name_byte b = is_letter b || (nat_le 48 b && nat_le b 57) || b == 95 || b == 45

-- a letter, and then letters, digits, _ and -
abbrev pub is_name : List ℕ → Bool
is_name w = not (length w == 0) && is_letter (slice_index w 0) && list_all is_name_byte (drop 1 w)

-- how a node is written, as `n7`
abbrev pub node_word : ℕ → List ℕ
node_word n = 110 ∷ decimal n
