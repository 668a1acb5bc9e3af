-- Pieces between quotes, seen from the front: what private readers say.
use Rattle.std.specs.Prelude.{◌≡◌, ℕ, List, ◌∷◌, ◌++◌, Bool, ◌⊎◌, [], false}
use Rattle.std.proofs.Math.Utf8.{encodes}
use Rattle.triples_read.specs.Terminals.{Many, OneOf}

-- s spells the character c: as it is, where c is of the class, or by an escape
abbrev pub PieceOf : (ℕ → Bool) → (List ℕ → ℕ → Type 0) → List ℕ → ℕ → Type 0
PieceOf class Esc s c = OneOf class s c ⊎ Esc s c

-- pieces that spell v, then the end, then the tail
abbrev pub Body : (List ℕ → ℕ → Type 0) → ℕ → List ℕ → List ℕ → List ℕ → Type 0
Body P e rest v tail = (s : List ℕ) × (rest ≡ encodes s ++ e ∷ tail) × Many P s v

-- the characters cs are read from the one rest to the other
pub record Step (P : List ℕ → ℕ → Type 0) (e : ℕ) (rest after cs : List ℕ) : Type 0 where
  -- a body that goes on after them is one with these characters in front
  pub sound : (v tail : List ℕ) → Body P e after v tail → Body P e rest (cs ++ v) tail
  -- and each body here begins with them
  pub complete : (v tail : List ℕ) → Body P e rest v tail → (w : List ℕ) × (v ≡ cs ++ w) × Body P e after w tail

-- some characters are read, and join the text
abbrev pub Adds : (List ℕ → ℕ → Type 0) → ℕ → List ℕ → List ℕ → List ℕ → List ℕ → Type 0
Adds P e old new rest after = (cs : List ℕ) × (new ≡ old ++ encodes cs) × Step P e rest after cs

-- the character that follows, if any, is none of the class
abbrev pub StopsAt : (ℕ → Bool) → List ℕ → Type 0
StopsAt class [] = Unit {0}
StopsAt class (b ∷ bs) = class b ≡ false

-- a body with this text stands at the front, with the tail behind its end
abbrev pub IsBodyPrefix : (List ℕ → ℕ → Type 0) → ℕ → List ℕ → List ℕ → List ℕ → Type 0
IsBodyPrefix P e bytes text tail = (v : List ℕ) × (text ≡ encodes v) × Body P e bytes v tail
