-- The numbers in a key tell sides and blocks apart.
use Rattle.std.proofs.Common.{◌≡◌, ℕ, IsTrue, refl, sym, arith, true≢false}
use Rattle.bisim_spec.specs.declared.sides.Side.{Side}
use Rattle.bisim_spec.specs.declared.sides.Side.TheVariants as side
use Rattle.bisim_spec.specs.declared.sides.Sides.{Sides}
use Rattle.bisim_spec.specs.declared.sides.Sides.TheVariants as sides
use Rattle.bisim_spec.specs.SidedLevels.{counts}
use Rattle.bisim_levels.specs.SidedKeys.{mark}

-- one side and one block
pub record AreOne (d e : Side) (b c : ℕ) : Type 0 where
  pub side : d ≡ e
  pub block : b ≡ c

pub mark_apart : (which : Sides) (d e : Side) → IsTrue (counts which d) → IsTrue (counts which e) → (b c : ℕ) → mark which d b ≡ mark which e c → AreOne d e b c
mark_apart sides.Parents side.Parents side.Parents x y b c h = record { side = refl; block = h }
mark_apart sides.Parents side.Parents side.Children x y b c h = absurd (true≢false (sym y))
mark_apart sides.Parents side.Children e x y b c h = absurd (true≢false (sym x))
mark_apart sides.Both side.Parents side.Parents x y b c h = record { side = refl; block = omega (arith, h) }
mark_apart sides.Both side.Parents side.Children x y b c h = absurd (omega (arith, h))
mark_apart sides.Both side.Children side.Parents x y b c h = absurd (omega (arith, h))
mark_apart sides.Both side.Children side.Children x y b c h = record { side = refl; block = omega (arith, h) }

-- a parent in block 2 makes 4 and a child there 5; where parents alone count, the parent makes 2
parent_number : mark sides.Both side.Parents 2 ≡ 4
parent_number = refl

child_number : mark sides.Both side.Children 2 ≡ 5
child_number = refl

parent_alone : mark sides.Parents side.Parents 2 ≡ 2
parent_alone = refl
