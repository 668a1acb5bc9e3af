-- The words, lists of labels, that match a path expression.
use Rattle.std.specs.Prelude.{ℕ, ◌≡◌, ◌⊎◌, List, [], ◌∷◌, ◌++◌}
use Rattle.std.specs.List.{AllByRecursion}
use Rattle.path_spec.specs.Trees.{star, plus, opt, child, below, Expr, only, or, Seq, last, then, Item, once, signed, Atom, label, any, group}

-- a word is a list of labels, and a label is its text
abbrev pub Word : Type 0
Word = List (List ℕ)

-- the pieces, one after another
abbrev pub joined : List Word → Word
joined [] = []
joined (p ∷ ps) = p ++ joined ps

-- any word
abbrev pub AnyWord : Word → Type 0
AnyWord w = Unit {0}

-- a word of the first kind, and behind it one of the second
abbrev pub Then : (Word → Type 0) → (Word → Type 0) → Word → Type 0
Then P Q w = (front : Word) × (back : Word) × P front × Q back × (w ≡ front ++ back)

-- the word is cut into pieces, none or more, and each is of the kind
abbrev pub Pieces : (Word → Type 0) → Word → Type 0
Pieces P w = (pieces : List Word) × AllByRecursion P pieces × (w ≡ joined pieces)

abbrev mutual
  -- one of the alternatives matches the word
  pub Matches : Expr → Word → Type 0
  Matches (only s) w = MatchesSeq s w
  Matches (or s e) w = MatchesSeq s w ⊎ Matches e w

  -- the items match pieces of the word one after another, with any word between two where '//' stands
  pub MatchesSeq : Seq → Word → Type 0
  MatchesSeq (last i) w = MatchesItem i w
  MatchesSeq (then i child s) w = Then (MatchesItem i) (MatchesSeq s) w
  MatchesSeq (then i below s) w = Then (MatchesItem i) (Then AnyWord (MatchesSeq s)) w

  -- the word is cut into as many pieces as the sign allows, one without a sign, and the atom matches each
  pub MatchesItem : Item → Word → Type 0
  MatchesItem (once a) w = MatchesAtom a w
  MatchesItem (signed a star) w = Pieces (MatchesAtom a) w
  MatchesItem (signed a plus) w = Then (MatchesAtom a) (Pieces (MatchesAtom a)) w
  MatchesItem (signed a opt) w = (w ≡ []) ⊎ MatchesAtom a w

  -- the word has one label, this one or any; or the expression in parentheses matches it
  pub MatchesAtom : Atom → Word → Type 0
  MatchesAtom (label t) w = w ≡ t ∷ []
  MatchesAtom any w = (t : List ℕ) × (w ≡ t ∷ [])
  MatchesAtom (group e) w = Matches e w
