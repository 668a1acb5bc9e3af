-- A plain test for whether a word matches.
use Rattle.std.specs.Prelude.{ℕ, zero, suc, ◌||◌, ◌&&◌, Bool, true, false, List, [], ◌∷◌, length, bytes_eq}
use Rattle.path_spec.specs.Trees.{star, plus, opt, child, below, Expr, only, or, Seq, last, then, Item, once, signed, Atom, label, any, group}
use Rattle.path_spec.specs.Matches.{Word}

-- some front of the word passes the first test, and the rest passes the second
abbrev pub splits : (Word → Bool) → (Word → Bool) → Word → Bool
splits p q [] = p [] && q []
splits p q (t ∷ w) = (p [] && q (t ∷ w)) || splits (λ a. p (t ∷ a)) q w

-- the word is cut into at most so many pieces, none of them empty, and each passes the test
abbrev pub cuts : ℕ → (Word → Bool) → Word → Bool
cuts n p [] = true
cuts zero p (t ∷ w) = false
cuts (suc n) p (t ∷ w) = splits (λ a. p (t ∷ a)) (λ b. cuts n p b) w

-- the word is cut into pieces, none of them empty, and each passes the test
abbrev pub pieces : (Word → Bool) → Word → Bool
pieces p w = cuts (length w) p w

-- the word has no label
abbrev pub is_nothing : Word → Bool
is_nothing [] = true
is_nothing (t ∷ w) = false

-- the word of one label that passes
abbrev pub is_one : (List ℕ → Bool) → Word → Bool
is_one p [] = false
is_one p (t ∷ []) = p t
is_one p (t ∷ r ∷ w) = false

abbrev mutual
  -- whether one of the alternatives matches the word
  pub matches : Expr → Word → Bool
  matches (only s) w = seq_matches s w
  matches (or s e) w = seq_matches s w || matches e w

  -- whether the items match pieces of the word one after another, with any word between two where '//' stands
  pub seq_matches : Seq → Word → Bool
  seq_matches (last i) w = item_matches i w
  seq_matches (then i child s) w = splits (item_matches i) (seq_matches s) w
  seq_matches (then i below s) w = splits (item_matches i) (splits (λ v. true) (seq_matches s)) w

  -- whether the word is cut into as many pieces as the sign allows, one without a sign, and the atom matches each
  pub item_matches : Item → Word → Bool
  item_matches (once a) w = atom_matches a w
  item_matches (signed a star) w = pieces (atom_matches a) w
  item_matches (signed a plus) w = splits (atom_matches a) (pieces (atom_matches a)) w
  item_matches (signed a opt) w = is_nothing w || atom_matches a w

  -- whether the word has one label, this one or any, or the expression in parentheses matches it
  pub atom_matches : Atom → Word → Bool
  atom_matches (label t) w = is_one (bytes_eq t) w
  atom_matches any w = is_one (λ t. true) w
  atom_matches (group e) w = matches e w
