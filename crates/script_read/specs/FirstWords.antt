-- The first word of a line, what follows it, and a text without the blanks at its ends.
use Rattle.std.specs.Prelude.{ℕ, ◌≡◌, ◌≢◌, ◌-◌, List, [], ◌∷◌, length, take, drop}
use Rattle.std.specs.List.{position_or_len, prefix_len, suffix_len}
use Rattle.graph_spec.specs.Words.{is_blank, words}

-- the line without its leading blanks
abbrev pub after_blanks : List ℕ → List ℕ
after_blanks line = drop (prefix_len is_blank line) line

-- the text without its trailing blanks
abbrev pub before_blanks : List ℕ → List ℕ
before_blanks text = take (length text - suffix_len is_blank text) text

-- the text without the blanks at both ends
abbrev pub without_blanks : List ℕ → List ℕ
without_blanks text = before_blanks (after_blanks text)

-- the bytes up to the next blank; none if there is no word
abbrev pub first_word : List ℕ → List ℕ
first_word line = take (position_or_len is_blank (after_blanks line)) (after_blanks line)

-- what follows the first word
abbrev pub behind_word : List ℕ → List ℕ
behind_word line = drop (position_or_len is_blank (after_blanks line)) (after_blanks line)

-- the expression of a query: the rest of the line behind its first two words, without the blanks at both ends
abbrev pub expression_text : List ℕ → List ℕ
expression_text line = without_blanks (behind_word (behind_word line))

-- the first word of the line, empty if there is none, and what follows it
pub record IsSplit (line word rest : List ℕ) : Type 0 where
  -- an empty word means that the line has none
  pub none : word ≡ [] → words line ≡ []
  -- else the line's words are this one and those of the rest
  pub some : word ≢ [] → words line ≡ word ∷ words rest

-- there is no word, or it begins with # (35)
abbrev pub OpensNothing : List ℕ → Type 0
OpensNothing [] = Unit {0}
OpensNothing (b ∷ bs) = b ≡ 35
