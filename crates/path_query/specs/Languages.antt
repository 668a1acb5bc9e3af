-- Languages of tokens, in texts where blanks may stand between them.
use Rattle.std.specs.Prelude.{ℕ, ◌≡◌, ◌↔◌, false, List, [], ◌∷◌, ◌++◌}
use Rattle.graph_spec.specs.Words.{is_blank, AreBlanks}

-- a word, which begins with no blank
abbrev pub Begins : List ℕ → Type 0
Begins [] = ⊥
Begins (b ∷ bs) = is_blank b ≡ false

-- which word spells a token, and before which rest of a text it may stand
module _ {Token : Type 0} (SpellsToken : List ℕ → Token → Type 0) (EndsToken : Token → List ℕ → Type 0) where
  -- a token stands at the front, as long as it can be
  abbrev pub IsTokenPrefix : List ℕ → Token → List ℕ → Type 0
  IsTokenPrefix text t rest = (word : List ℕ) × SpellsToken word t × EndsToken t rest × (text ≡ word ++ rest)

  -- a text is spelled by tokens with blanks between them and at both ends, and at most one stands at a front
  pub record IsLanguage (SpellsTokens : List ℕ → List Token → Type 0) : Type 0 where
    -- no token is spelled by blanks alone
    pub none : (text : List ℕ) → SpellsTokens text [] ↔ AreBlanks text
    -- a first token stands behind blanks, and the rest spells the others
    pub more : (text : List ℕ) (t : Token) (ts : List Token) → SpellsTokens text (t ∷ ts)
        ↔ ((before : List ℕ) × (word : List ℕ) × (rest : List ℕ) × AreBlanks before × SpellsToken word t × EndsToken t rest × SpellsTokens rest ts
        × (text ≡ before ++ (word ++ rest)))
    -- no token begins with a blank
    pub begins : (word : List ℕ) (t : Token) → SpellsToken word t → Begins word
    -- at most one token stands at the front of a text
    pub one : (text : List ℕ) (t u : Token) (r q : List ℕ) → IsTokenPrefix text t r → IsTokenPrefix text u q → (t ≡ u) × (r ≡ q)
