-- How queries are written: their tokens, with blanks between them. How labels are spelled is handed in.
use Rattle.std.specs.Prelude.{ℕ, ◌≡◌, ◌==◌, false, List, [], ◌∷◌, ◌++◌, codes, IsTrue}
use Rattle.std.specs.List.{flat_map}
use Rattle.graph_spec.specs.Words.{AreBlanks, is_name}
use Rattle.path_spec.specs.Spelling.{EndsName, EndsSlash}
use Rattle.branch_spec.specs.Trees.{Axis, child, below, parent, above, Branch}
use Rattle.branch_spec.specs.Tokens.{Token, lab, underscore, axis, left, right, opening, closing, not_word, and_word, or_word, nothing, tokens}

-- no '\' comes next
abbrev pub EndsBackslash : List ℕ → Type 0
EndsBackslash [] = Unit {0}
EndsBackslash (b ∷ bs) = (b == 92) ≡ false

-- A token is as long as can be. A label in brackets ends with them, so only a name needs something behind it that ends it.
abbrev pub EndsToken : Token → List ℕ → Type 0
EndsToken (lab t) rest = IsTrue (is_name t) → EndsName rest
EndsToken underscore rest = Unit {0}
EndsToken (axis child) rest = EndsSlash rest
EndsToken (axis below) rest = Unit {0}
EndsToken (axis parent) rest = EndsBackslash rest
EndsToken (axis above) rest = Unit {0}
EndsToken left rest = Unit {0}
EndsToken right rest = Unit {0}
EndsToken opening rest = Unit {0}
EndsToken closing rest = Unit {0}
EndsToken not_word rest = EndsName rest
EndsToken and_word rest = EndsName rest
EndsToken or_word rest = EndsName rest
EndsToken nothing rest = Unit {0}

-- '/', '//', '\' or '\\'
abbrev pub axis_text : Axis → List ℕ
axis_text child = 47 ∷ []
axis_text below = 47 ∷ 47 ∷ []
axis_text parent = 92 ∷ []
axis_text above = 92 ∷ 92 ∷ []

-- the one spelling of a token; with it the blanks that stand at 'and' and 'or' in a canonical text
abbrev pub token_text : Token → List ℕ
token_text (lab t) = t
token_text underscore = 95 ∷ []
token_text (axis a) = axis_text a
token_text left = 91 ∷ []
token_text right = 93 ∷ []
token_text opening = 40 ∷ []
token_text closing = 41 ∷ []
token_text not_word = codes "not"
token_text and_word = codes " and "
token_text or_word = codes " or "
token_text nothing = []

-- the tokens without any blank, but one on each side of 'and' and 'or'; labels in their own spelling
abbrev pub canonical : Branch → List ℕ
canonical q = flat_map token_text (tokens q)

module _ (SpellsLabel : List ℕ → List ℕ → Type 0) where
  -- w spells the token: a label as `SpellsLabel` says, 'and' and 'or' without blanks; no text spells what has none
  abbrev pub SpellsToken : List ℕ → Token → Type 0
  SpellsToken w (lab t) = SpellsLabel w t
  SpellsToken w underscore = w ≡ token_text underscore
  SpellsToken w (axis a) = w ≡ axis_text a
  SpellsToken w left = w ≡ token_text left
  SpellsToken w right = w ≡ token_text right
  SpellsToken w opening = w ≡ token_text opening
  SpellsToken w closing = w ≡ token_text closing
  SpellsToken w not_word = w ≡ codes "not"
  SpellsToken w and_word = w ≡ codes "and"
  SpellsToken w or_word = w ≡ codes "or"
  SpellsToken w nothing = ⊥

  -- the text spells the tokens in their order, each as long as can be, with blanks or none before each and at the end
  abbrev pub SpellsTokens : List ℕ → List Token → Type 0
  SpellsTokens text [] = AreBlanks text
  SpellsTokens text (t ∷ ts) =
      (before : List ℕ) × (word : List ℕ) × (rest : List ℕ) × AreBlanks before × SpellsToken word t × EndsToken t rest × SpellsTokens rest ts
      × (text ≡ before ++ (word ++ rest))

  -- the text spells the tokens of the query
  abbrev pub Spells : List ℕ → Branch → Type 0
  Spells text q = SpellsTokens text (tokens q)
