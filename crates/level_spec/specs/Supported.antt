-- Keys as the supports say: the blocks with support to a block, or from it, are those of the neighbours of its members.
use Rattle.std.specs.Prelude.{ℕ, ◌≡◌, ◌<◌, List, ◌∷◌, Option, Some, IsTrue}
use Rattle.std.specs.List.Sorted.{IsStrictlyIncreasing}
use Rattle.graph_spec.specs.Members.{has}
use Rattle.bisim_spec.specs.declared.sides.Side.{Side}
use Rattle.bisim_spec.specs.declared.sides.Side.TheVariants as side
use Rattle.bisim_spec.specs.declared.sides.Sides.{Sides}
use Rattle.bisim_spec.specs.SidedLevels.{counts}
use Rattle.bisim_levels.specs.SidedKeys.{mark}
use Rattle.level_spec.specs.Keyed.{first_number}

-- how many edges join members of a to members of b, where those of a are neighbours on this side
abbrev pub support_on : Side → (ℕ → ℕ → ℕ) → ℕ → ℕ → ℕ
support_on side.Parents support a b = support a b
support_on side.Children support a b = support b a

-- The number stands for the first number of the key of some block that has support with b on a side that counts.
pub record IsSupported (sides : Sides) (key : ℕ → Option (List ℕ)) (support : ℕ → ℕ → ℕ) (b c : ℕ) : Type 0 where
  -- a side that counts
  pub side : Side
  pub counted : IsTrue (counts sides side)
  -- a block that has support with b on this side
  pub block : ℕ
  pub some : 0 < support_on side support block b
  -- the first number of that block's key
  pub first : ℕ
  pub first_is : first_number (key block) ≡ Some first
  -- c is the number that stands for it on this side
  pub is : c ≡ mark sides side first

-- The key of a block begins with this number. The others stand for the first numbers of the keys of the blocks that
-- have support with it, rising, each once. It can be said of a draft too, without a graph.
pub record IsKeyedBySupports (sides : Sides) (own : Option ℕ) (key : ℕ → Option (List ℕ)) (support : ℕ → ℕ → ℕ) (b : ℕ) : Type 0 where
  -- the first number of the key
  pub number : ℕ
  -- the numbers behind it
  pub around : List ℕ
  -- the key is the one and then the others
  pub is : key b ≡ Some (number ∷ around)
  -- the first number is this one
  pub own_is : own ≡ Some number
  -- the others rise
  pub rising : IsStrictlyIncreasing around
  -- each stands for the first number of the key of a block that has support with b
  pub each : (c : ℕ) → IsTrue (has around c) → IsSupported sides key support b c
  -- each such number is there
  pub every : (c : ℕ) → IsSupported sides key support b c → IsTrue (has around c)
