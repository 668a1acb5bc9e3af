-- Texts between quotes in the language of Graphviz (The DOT Language, graphviz.org): a quote (34) ends the text, unless a backslash
-- (92) stands before it.
use Rattle.std.specs.Prelude.{ℕ, ◌∷◌, ◌||◌, List, [], if◌then◌else◌, nat_eq, nat_lt, codes}
use Rattle.std.specs.List.{flat_map}

-- how a byte is written between quotes: a quote and a backslash behind a backslash, `&` (38), which begins the name of a
-- character, as that name, and control characters as a space (32)
abbrev pub quoted_byte : ℕ → List ℕ
quoted_byte b =
    if nat_eq b 34 || nat_eq b 92 then 92 ∷ b ∷ []
    else if nat_eq b 38 then codes "&amp;"
    else if nat_lt b 32 then 32 ∷ []
    else b ∷ []

-- how a text is written between quotes
abbrev pub quoted : List ℕ → List ℕ
quoted t = flat_map quoted_byte t

-- where Graphviz is in a text that it reads
pub data Reading : Type 0 where
  -- outside of quotes
  outside : Reading
  -- between quotes
  inside : Reading
  -- between quotes, behind a backslash
  escaped : Reading

-- where Graphviz is behind one more byte
abbrev pub read_byte : Reading → ℕ → Reading
read_byte outside b = if nat_eq b 34 then inside else outside
read_byte inside b = if nat_eq b 34 then outside else (if nat_eq b 92 then escaped else inside)
read_byte escaped b = inside

-- where it is behind the text
abbrev pub read_text : Reading → List ℕ → Reading
read_text r [] = r
read_text r (b ∷ bs) = read_text (read_byte r b) bs
