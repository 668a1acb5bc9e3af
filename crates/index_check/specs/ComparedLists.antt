-- Partitions that are compared.
use Rattle.std.specs.Prelude.{ℕ, ◌≡◌, ◌<◌, List, Option, Some}
use Rattle.graph_spec.specs.Members.{at}

-- numbers with one value in the first list have one in the second
abbrev pub Determines : List (Option ℕ) → List (Option ℕ) → Type 0
Determines keys values = (u v b : ℕ) → at keys u ≡ Some b → at keys v ≡ Some b → at values u ≡ at values v

-- both are parted in the same way
pub record AreSame (keys values : List (Option ℕ)) : Type 0 where
  -- numbers with one key have one value
  pub there : Determines keys values
  -- numbers with one value have one key
  pub back : Determines values keys

-- For the numbers below n: each value leads to some number that has it, and that number has the same value in the second list.
pub record AreCompared (keys values : List (Option ℕ)) (n : ℕ) (first : List (Option ℕ)) : Type 0 where
  -- each value of a number below n leads to a number
  pub found : (m b : ℕ) → m < n → at keys m ≡ Some b → (f : ℕ) × (at first b ≡ Some f)
  -- that one has this value
  pub stands : (b f : ℕ) → at first b ≡ Some f → at keys f ≡ Some b
  -- both numbers have the same value in the second list
  pub same : (m b f : ℕ) → m < n → at keys m ≡ Some b → at first b ≡ Some f → at values m ≡ at values f
