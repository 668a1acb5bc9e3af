-- Levels of bisimilarity by the sides that count: by parents those of the A(k)-index, by parents and children those
-- of the bounded forward and backward index.
use Rattle.std.specs.Prelude.{ℕ, ◌≡◌, Bool, true, false, IsTrue, IsFalse}
use Rattle.graph_spec.specs.Shapes.{Shape, IsNode}
use Rattle.bisim_spec.specs.declared.sides.Side.{Side}
use Rattle.bisim_spec.specs.declared.sides.Side.TheVariants as side
use Rattle.bisim_spec.specs.declared.sides.Sides.{Sides}
use Rattle.bisim_spec.specs.declared.sides.Sides.TheVariants as sides
use Rattle.bisim_spec.specs.Bisimilarity.{Bis, Both}
use Rattle.bisim_spec.specs.Reach.{within_distance, either_way}

-- whether neighbours on this side count
abbrev pub counts : Sides → Side → Bool
counts sides.Parents side.Parents = true
counts sides.Parents side.Children = false
counts sides.Both side.Parents = true
counts sides.Both side.Children = true

-- whether p is a neighbour of n on this side
abbrev pub beside : Side → Shape → ℕ → ℕ → Bool
beside side.Parents s p n = s.edge p n
beside side.Children s p n = s.edge n p

-- bisimilarity to a level, by the sides that count
abbrev pub AtLevel : Sides → Shape → ℕ → ℕ → ℕ → Type 0
AtLevel sides.Parents s = Bis s
AtLevel sides.Both s = Both s

-- the shape whose edges lead from a node to those whose next level it can change
abbrev pub spread : Sides → Shape → Shape
spread sides.Parents s = s
spread sides.Both s = either_way s

-- the starting numbers, and the nodes whose level i can differ where the graph does at those alone
abbrev pub affected : Sides → Shape → (ℕ → Bool) → ℕ → ℕ → Bool
affected sides s from i n = within_distance (spread sides s) from i n

-- A node of the second shape that is no end has the label that it had in the first, and the same neighbours on the
-- sides that count. A number that is no node of the second shape may have had any.
pub record DiffersBy (sides : Sides) (ends : ℕ → Bool) (s s2 : Shape) : Type 0 where
  -- such a node has the label that it had
  pub label : (n : ℕ) → IsNode s2 n → IsFalse (ends n) → s.label n ≡ s2.label n
  -- on each side that counts its neighbours are the same
  pub edge : (d : Side) → IsTrue (counts sides d) → (p n : ℕ) → IsNode s2 n → IsFalse (ends n) → beside d s p n ≡ beside d s2 p n
