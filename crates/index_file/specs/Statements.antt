-- What a line of an index file says. Numbers are in decimal without leading zeros, and words stand behind one space each.
use Rattle.std.specs.Prelude.{ℕ, ◌≡◌, ◌==◌, ◌||◌, ◌&&◌, not, Bool, List, ◌++◌, length, Option, Some, None, if◌then◌else◌, codes, slice_index_or}
use Rattle.std.specs.List.{list_all}
use Rattle.std.specs.Char.{is_ascii_digit}
use Rattle.std.specs.Str.Parse.{digits_value}
use Rattle.path_query.specs.Labels.{SpellsLabel}
use Rattle.index_api.specs.declared.kinds.Via.{Via}
use Rattle.index_api.specs.declared.kinds.Via.TheVariants.{Data, A, One, Fb, B}

-- what a line says
pub data Statement : Type 0 where
  -- the first line
  title : Statement
  -- how many numbers were allocated, and the highest level of the families
  allocated : ℕ → ℕ → Statement
  -- the next number is that of a node with this label, or of one that is gone
  live : List ℕ → Statement
  gone : Statement
  -- how many edges follow
  edges : ℕ → Statement
  -- an edge from the one node to the other
  edge : ℕ → ℕ → Statement
  -- how many views follow
  views : ℕ → Statement
  -- a view of this index follows
  view : Via → Statement
  -- the rank of the block of the next node
  rank : ℕ → Statement

-- digits, at least one, and more than one only where the first isn't 0 (48)
abbrev pub is_decimal : List ℕ → Bool
is_decimal digits = list_all is_ascii_digit digits && (length digits == 1 || not (slice_index_or digits 0 48 == 48))

-- the number that the digits write, however large
abbrev pub decimal_value : List ℕ → Option ℕ
decimal_value digits = if is_decimal digits then Some (digits_value 10 digits) else None

-- the digits write this number
abbrev pub IsNumber : List ℕ → ℕ → Type 0
IsNumber digits n = decimal_value digits ≡ Some n

-- a letter and then a number
abbrev pub NamesLevel : List ℕ → List ℕ → ℕ → Type 0
NamesLevel letter word level = (digits : List ℕ) × (word ≡ letter ++ digits) × IsNumber digits level

-- how an index is named: `a` and its level, `one`, `fb`, `b` and its level; the graph itself is none
abbrev pub NamesIndex : List ℕ → Via → Type 0
NamesIndex word Data = ⊥
NamesIndex word (A level) = NamesLevel (codes "a") word level
NamesIndex word One = word ≡ codes "one"
NamesIndex word Fb = word ≡ codes "fb"
NamesIndex word (B level) = NamesLevel (codes "b") word level

-- the text is this word, and behind it one of which P holds
abbrev pub HasPrefix : List ℕ → List ℕ → (List ℕ → Type 0) → Type 0
HasPrefix word text P = (rest : List ℕ) × (text ≡ word ++ rest) × P rest

-- two numbers with this word between them
abbrev pub AreNumbers : List ℕ → List ℕ → ℕ → ℕ → Type 0
AreNumbers word text n m = (a : List ℕ) × (b : List ℕ) × (text ≡ a ++ (word ++ b)) × IsNumber a n × IsNumber b m

-- the line says this
abbrev pub Says : List ℕ → Statement → Type 0
Says line title = line ≡ codes "pathindex 1"
Says line (allocated n k) = HasPrefix (codes "given ") line (λ rest. AreNumbers (codes " k ") rest n k)
Says line (live t) = HasPrefix (codes "live ") line (λ word. SpellsLabel word t)
Says line gone = line ≡ codes "gone"
Says line (edges m) = HasPrefix (codes "edges ") line (λ digits. IsNumber digits m)
Says line (edge u v) = AreNumbers (codes " ") line u v
Says line (views n) = HasPrefix (codes "views ") line (λ digits. IsNumber digits n)
Says line (view via) = HasPrefix (codes "view ") line (λ word. NamesIndex word via)
Says line (rank r) = IsNumber line r
